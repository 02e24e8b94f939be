-- An honest reply passes each test.
use Rattle.std.proofs.Common.{◌≡◌, ◌≢◌, ℕ, List, [], ◌∷◌, length, Bool, true, false, cond, refl, sym, ap, subst, ◌∙◌}
use Rattle.std.specs.Str.{bytes_eq}
use Rattle.std.proofs.lemmas.Slice.Eq.{bytes_eq-Decides}
use Rattle.std.proofs.lemmas.Cmp.{nat_list_eq_equiv}
use Rattle.encoding.specs.Bits.{cut, Agree}
use Rattle.encoding.specs.Bytes.{Is32Bytes}
use Rattle.prefixtree.specs.Paths.{agreeing, end_of, Way}
use Rattle.prefixtree.specs.Placement.{Item, Items}
use Rattle.prefixtree.specs.declared.path.End.TheVariants as path
use Rattle.prefixtree.proofs.PathLeads.{path-leads}
use Rattle.proofs.specs.declared.reply_refusal.Refusal.{Refusal}
use Rattle.proofs.specs.declared.reply_refusal.Refusal.TheVariants.{Malformed, Trailing, OtherRoot, BadVuf, SameIndex, OtherPrefix, PathMismatch}
use Rattle.proofs.specs.Accepts.{stated, Accepts}
use Rattle.proofs.specs.Honest.{IsHonest}
use Rattle.proofs.specs.PathEnds.{end_of_path, end_text}
use Rattle.proofs.specs.Refusals.{AbsenceIsByAnother, AbsenceIsOnWay, Passes}
use Rattle.proofs.specs.Replies.{End, Present, Empty, Other, Reply, reply_bytes}
use Rattle.proofs.proofs.Passing.{passed-accepts}

-- the other index at the end of a path, among items that agree with the asked one
abbrev IsOtherOf : List ℕ → ℕ → List ℕ → Type 0
IsOtherOf index n other = (other ≢ index) × Agree index other n

abbrev agrees : List ℕ → ℕ → Item → Bool
agrees index n item = bytes_eq (cut item.0 n) (cut index n)

other_of : (index : List ℕ) (n : ℕ) (items : Items) (other commitment : List ℕ) → path.Other other commitment ≡ end_of index (agreeing index n items) → IsOtherOf index n other
other_of index n [] other commitment e = absurd cc
other_of index n (item ∷ items) other commitment e = by (agrees index n item) refl (other_of index n items other commitment)
  where
    -- the first of the items that agree
    first : (b : Bool) → bytes_eq item.0 index ≡ b → path.Other other commitment ≡ cond b (path.Present item.1) (path.Other item.0 item.1) → (item.0 ≡ other) × (other ≢ index)
    first true same e = absurd cc
    first false differ e =
        let is : item.0 ≡ other = cc in
        (is, λ equal. true_false (sym (nat_list_eq_equiv.refl index) ∙ ap (λ (x : List ℕ). bytes_eq x index) (sym (is ∙ equal)) ∙ differ))
      where
        true_false : true ≡ false → ⊥
        true_false e = absurd cc

    by : (b : Bool) → agrees index n item ≡ b → (path.Other other commitment ≡ end_of index (agreeing index n items) → IsOtherOf index n other) → IsOtherOf index n other
    by true test more =
        let kept : agreeing index n (item ∷ items) ≡ item ∷ agreeing index n items = rw test refl in
        let f = first (bytes_eq item.0 index) refl (e ∙ ap (end_of index) kept) in
        (f.1, ap (λ (x : List ℕ). cut index n) f.0 ∙ sym ((bytes_eq-Decides (cut item.0 n) (cut index n)).0 test) ∙ ap (λ (x : List ℕ). cut x n) f.0)
    by false test more =
        let dropped : agreeing index n (item ∷ items) ≡ agreeing index n items = rw test refl in
        more (e ∙ ap (end_of index) dropped)

module _ (hash : List ℕ → List ℕ) (accepted : List ℕ → List ℕ → List ℕ → Type 0) (name : List ℕ) where
  abbrev Last : End → List ℕ → ℕ → Items → Type 0
  Last end index n items = end_of_path hash name end ≡ end_of index (agreeing index n items)

  no_leaf : (end : End) (index : List ℕ) (n : ℕ) (items : Items) → Last end index n items → AbsenceIsByAnother index end
  no_leaf (Present salt key) index n items e = tt
  no_leaf Empty index n items e = tt
  no_leaf (Other other commitment) index n items e = (other_of index n items other commitment e).0

  on_way : (end : End) (index : List ℕ) (n : ℕ) (items : Items) → Last end index n items → AbsenceIsOnWay index n end
  on_way (Present salt key) index n items e = tt
  on_way Empty index n items e = tt
  on_way (Other other commitment) index n items e = (other_of index n items other commitment e).1

  pub honest-accepted : (items : Items) (reply : Reply) → Is32Bytes (hash reply.value) → IsHonest hash accepted name items reply
      → Accepts hash accepted reply.body name (reply_bytes reply) (stated reply.end)
  honest-accepted items reply size honest =
      passed-accepts hash accepted reply.body name (reply_bytes reply) reply (refl, honest.form) passed (stated reply.end) refl
    where
      leads : Way hash reply.body.root (hash reply.value) reply.siblings (end_text hash reply.body.nonce name (hash reply.value) (length reply.siblings) reply.end)
      leads =
          subst (λ (root : List ℕ). Way hash root (hash reply.value) reply.siblings (end_text hash reply.body.nonce name (hash reply.value) (length reply.siblings) reply.end)) (sym honest.root)
          (path-leads hash reply.body.nonce items (hash reply.value) honest.placement size reply.siblings (end_of_path hash name reply.end) honest.path)

      passed : (refusal : Refusal) → Passes hash accepted reply.body name reply refusal
      passed Malformed = tt
      passed Trailing = tt
      passed OtherRoot = refl
      passed BadVuf = honest.value
      passed SameIndex = no_leaf reply.end (hash reply.value) (length reply.siblings) items honest.path.last
      passed OtherPrefix = on_way reply.end (hash reply.value) (length reply.siblings) items honest.path.last
      passed PathMismatch = leads
