-- What a step of reading says of the whole.
use Rattle.std.proofs.Common.{◌≡◌, ℕ, true, false, List, Option, Some, Result, Ok, Err, is_err, true≢false, eqb-true, eq-eqb, nat_eq, IsTrue, ◌↔◌, option_map, sym, ap, subst, ◌∙◌}
use Rattle.proofs.proofs.Passing.{nothing_left}
use Rattle.proofs.specs.declared.reply_refusal.Refusal.{Refusal}
use Rattle.proofs.specs.declared.reply_refusal.Refusal.TheVariants.{Malformed, Trailing, OtherRoot, BadVuf, SameIndex, OtherPrefix, PathMismatch}
use Rattle.proofs.specs.Refusals.{ReadsReply}
use Rattle.proofs.specs.Replies.{Reply, SpellsReply}
use Rattle.audits.specs.declared.read_fault.ReadFault.{ReadFault}
use Rattle.audits.specs.declared.read_fault.ReadFault.TheVariants.{NotEvidence, OutOfMemory}
use Rattle.serde_json.specs.Data.{Data, Members}
use Rattle.serde_json.specs.Events.{members_len}
use Rattle.serde_json.specs.Find.{as_object}
use Rattle.audits.specs.Files.{Finds, HasThree}

-- where a part is not found, the whole is not
pub refused : {A B : Type 0} (Is : A → Type 0) (IsWhole : B → Type 0) (fault : ReadFault)
    → ((y : B) → IsWhole y → (x : A) × Is x) → Finds {X = A} (λ x. x) Is (Err fault) → Finds {X = B} (λ y. y) IsWhole (Err fault)
refused Is IsWhole NotEvidence part none = λ y whole. let x = part y whole in none x.0 x.1
refused Is IsWhole OutOfMemory part none = tt

-- what is found of one is found of the same
pub found : {X A : Type 0} (seen : X → A) (Is IsToo : A → Type 0) → ((y : A) → Is y → IsToo y) → ((y : A) → IsToo y → Is y)
    → (r : Result X ReadFault) → Finds seen Is r → Finds seen IsToo r
found seen Is IsToo to back (Ok x) h = to (seen x) h
found seen Is IsToo to back (Err NotEvidence) h = λ y is. h y (back y is)
found seen Is IsToo to back (Err OutOfMemory) h = tt

-- bytes that are refused spell no reply
pub no_reply : (bytes : List ℕ) (r : Result Reply Refusal) → ReadsReply bytes r → is_err r ≡ true → (reply : Reply) → ¬ SpellsReply bytes reply
no_reply bytes (Ok reply) h e = absurd (true≢false (sym e))
no_reply bytes (Err Malformed) h e = h.0
no_reply bytes (Err Trailing) h e = λ reply is.
    let (first, front, rest, whole, some, begins) = h in
    some (nothing_left front rest first reply begins (subst (λ (text : List ℕ). SpellsReply text reply) whole is))
no_reply bytes (Err OtherRoot) h e = absurd h
no_reply bytes (Err BadVuf) h e = absurd h
no_reply bytes (Err SameIndex) h e = absurd h
no_reply bytes (Err OtherPrefix) h e = absurd h
no_reply bytes (Err PathMismatch) h e = absurd h

-- bytes that are not refused spell a reply
pub some_reply : (bytes : List ℕ) (r : Result Reply Refusal) → ReadsReply bytes r → is_err r ≡ false → (reply : Reply) × SpellsReply bytes reply
some_reply bytes (Ok reply) h e = (reply, h)
some_reply bytes (Err refusal) h e = absurd (true≢false e)

same_count : (n m : ℕ) → Some n ≡ Some m → n ≡ m
same_count n m e = cc

-- the test of the number of members
pub three_members : (members : Members) (value : Data) (n : ℕ) → Some members ≡ as_object value → n ≡ members_len members → IsTrue (nat_eq n 3) ↔ HasThree value
three_members members value n e len =
    subst (λ (o : Option Members). IsTrue (nat_eq n 3) ↔ (option_map members_len o ≡ Some 3)) e
    (λ is. ap Some (sym len ∙ eqb-true n 3 is), λ three. eq-eqb n 3 (len ∙ same_count (members_len members) 3 three))
