-- The line that a fault names, and what comes of those before it.
use Rattle.std.proofs.Common.{◌≡◌, ◌≢◌, ◌⊎◌, ℕ, ◌+◌, List, [], ◌∷◌, Option, None, Result, Ok, Err, ap, arith, inl, inr, length, option_map, refl, subst, sym}
use Rattle.std.specs.Prelude.{IfErr, IsErrAnd}
use Rattle.textio.specs.Lines.{lines_of}
use Rattle.textio.specs.declared.program_fault.ProgramFault.{ProgramFault}
use Rattle.textio.specs.declared.program_fault.ProgramFault.TheVariants.{OutOfMemory}
use Rattle.client.specs.Clients.{Client}
use Rattle.client.specs.Starting.{Starts}
use Rattle.client.specs.Updating.{Updates}
use Rattle.client.specs.declared.client_refusal.Refusal.{Refusal}
use Rattle.client.specs.declared.client_refusal.Refusal.TheVariants.{Root, Proof, UnknownRoot, RootDiffers, Memory, NoPromise}
use Rattle.memory.specs.Lines.{IsLineOf}
use Rattle.memory.specs.Memories.{nothing, Memory as Known}
use Rattle.memory.specs.Texts.{Spells}
use Rattle.memory.specs.declared.item.Item.{Item}
use Rattle.memory.proofs.OneItem.{one_item}
use Rattle.asking.specs.FinalBindings.{no_finals, Finals, IsKnownIn}
use Rattle.runs.specs.Loading.{fault_at, IsAccepted, IsFaultAt, IsHexOf, IsRefused, IsSecond, LoadsClient, RefusesItem, RefusesNext, StartsFrom, TakesLines, TakesNext, TakesRoots}

-- ---- faults

pub fault_on : (fault : ProgramFault) (Is Be : ℕ → Type 0) → ((number : ℕ) → Is number → Be number) → IsFaultAt Is fault → IsFaultAt Be fault
fault_on fault Is Be leads (inl memory) = inl memory
fault_on fault Is Be leads (inr (number, same, is)) = inr (number, same, leads number is)

-- such a fault that is passed on
pub passed_on : {A : Type 0} (result : Result A ProgramFault) (fault : ProgramFault) (Is Be : ℕ → Type 0) → IsErrAnd result (λ given. given ≡ fault) → ((number : ℕ) → Is number → Be number)
    → IsFaultAt Is fault → IfErr result (IsFaultAt Be)
passed_on (Ok done) fault Is Be passed leads named = tt
passed_on (Err given) fault Is Be passed leads named = fault_on given Is Be leads (subst (IsFaultAt Is) (sym passed) named)

-- memory may run out as it is told
pub fault_told : (fault told : ProgramFault) (Is Be : ℕ → Type 0) → (told ≡ fault) ⊎ (told ≡ OutOfMemory) → ((number : ℕ) → Is number → Be number) → IsFaultAt Is fault → IsFaultAt Be told
fault_told fault told Is Be (inl same) leads named = fault_on told Is Be leads (subst (IsFaultAt Is) (sym same) named)
fault_told fault told Is Be (inr memory) leads named = inl memory

-- what is so of this line
pub passed_here : {A : Type 0} (result : Result A ProgramFault) (fault : ProgramFault) (number : ℕ) (Is Be : Type 0) → IsErrAnd result (λ given. given ≡ fault) → (Is → Be)
    → IsFaultAt (λ bad. (bad ≡ number) × Is) fault → IfErr result (IsFaultAt (λ bad. (bad ≡ number) × Be))
passed_here result fault number Is Be passed leads = passed_on result fault (λ bad. (bad ≡ number) × Is) (λ bad. (bad ≡ number) × Be) passed (λ bad here. (here.0, leads here.1))

-- a refusal is named, but for want of memory
pub refused_at : (number : ℕ) (why : Refusal) (fault : ProgramFault) (Is : Type 0) → fault ≡ fault_at number why → (why ≢ Memory → Is) → IsFaultAt (λ bad. (bad ≡ number) × Is) fault
refused_at number (Root why) fault Is same leads = inr (number, same, (refl, leads (λ e. cc)))
refused_at number (Proof why) fault Is same leads = inr (number, same, (refl, leads (λ e. cc)))
refused_at number UnknownRoot fault Is same leads = inr (number, same, (refl, leads (λ e. cc)))
refused_at number (RootDiffers evidence) fault Is same leads = inr (number, same, (refl, leads (λ e. cc)))
refused_at number Memory fault Is same leads = inl same
refused_at number NoPromise fault Is same leads = inr (number, same, (refl, leads (λ e. cc)))

-- ---- lines

-- a line that is not empty is taken, or refused
pub next_taken : (Takes : List ℕ → Client → Client → Type 0) (line : List ℕ) (before after : Client) → (line ≡ [] → ⊥) → Takes line before after → TakesNext Takes line before after
next_taken Takes [] before after some takes = absurd (some refl)
next_taken Takes (byte ∷ line) before after some takes = takes

pub next_refused : (Refuses : List ℕ → Client → Type 0) (line : List ℕ) (before : Client) → (line ≡ [] → ⊥) → Refuses line before → RefusesNext Refuses line before
next_refused Refuses [] before some refuses = absurd (some refl)
next_refused Refuses (byte ∷ line) before some refuses = refuses

module _ (Takes : List ℕ → Client → Client → Type 0) (Refuses : List ℕ → Client → Type 0) where
  -- the lines that are left are taken behind one more
  pub one_taken : (number : ℕ) (all : List (List ℕ)) (line : List ℕ) (lines : List (List ℕ)) (before after : Client) (result : Result Client ℕ) → all ≡ line ∷ lines → TakesNext Takes line before after
      → TakesLines Takes Refuses (number + 1) lines after result → TakesLines Takes Refuses number all before result
  one_taken number all line lines before after result at takes rest = subst (λ (ls : List (List ℕ)). TakesLines Takes Refuses number ls before result) (sym at) (inl (after, takes, rest))

  -- or the first of them is refused
  pub one_refused : (number : ℕ) (all : List (List ℕ)) (line : List ℕ) (lines : List (List ℕ)) (before : Client) → all ≡ line ∷ lines → (bad : ℕ) → (bad ≡ number) × RefusesNext Refuses line before
      → TakesLines Takes Refuses number all before (Err bad)
  one_refused number all line lines before at bad (same, refuses) = subst (λ (ls : List (List ℕ)). TakesLines Takes Refuses number ls before (Err bad)) (sym at) (inr (refuses, ap Err same))

  -- no line is left
  pub none_left : (number : ℕ) (text : List ℕ) (before : Client) → length text ≡ 0 → TakesLines Takes Refuses number (lines_of text) before (Ok before)
  none_left number [] before none = refl
  none_left number (byte ∷ text) before none = absurd (omega (arith, none))

-- ---- the first file

pub starts_so : (verified : List ℕ → List ℕ → List ℕ → Type 0) (key given bytes : List ℕ) (result : Result Client Refusal) → given ≡ bytes → Starts verified key given result → Starts verified key bytes result
starts_so verified key given bytes result same starts = subst (λ (root : List ℕ). Starts verified key root result) same starts

pub refused_so : (hash : List ℕ → List ℕ) (verified : List ℕ → List ℕ → List ℕ → Type 0) (before after : Client) (given bytes : List ℕ) (why : Refusal) → given ≡ bytes
    → Updates hash verified before given {A = Unit {0}} (Err why) after → Updates hash verified before bytes {A = Unit {0}} (Err why) before
refused_so hash verified before after given bytes why same updates = (refl, (subst (λ (list : List ℕ). Updates hash verified before list {A = Unit {0}} (Err why) after) same updates).1)

module _ (hash : List ℕ → List ℕ) (verified : List ℕ → List ℕ → List ℕ → Type 0) (key : List ℕ) (all : List (List ℕ)) (line : List ℕ) (lines : List (List ℕ)) (at : all ≡ line ∷ lines) where
  pub starts_on : (start : Client) (result : Result Client ℕ) → IsHexOf (λ root. Starts verified key root (Ok start)) line → TakesRoots hash verified 2 lines start result → StartsFrom hash verified key all result
  starts_on start result starts takes = subst (λ (ls : List (List ℕ)). StartsFrom hash verified key ls result) (sym at) (inl (start, starts, takes))

  pub starts_not : (bad : ℕ) → (bad ≡ 1) × IsRefused (λ root why. Starts verified key root (Err why)) line → StartsFrom hash verified key all (Err bad)
  starts_not bad (same, refused) = subst (λ (ls : List (List ℕ)). StartsFrom hash verified key ls (Err bad)) (sym at) (inr (refused, ap Err same))

-- ---- items

module _ (hash : List ℕ → List ℕ) (accepted verified : List ℕ → List ℕ → List ℕ → Type 0) (before : Client) where
  -- a line is of no other item
  pub refuses_line : (line : List ℕ) (item : Item) → IsLineOf line item → ¬ IsAccepted hash accepted verified before.chain item → RefusesItem hash accepted verified line before
  refuses_line line item is not_accepted = λ other also is_accepted. not_accepted (subst (λ (i : Item). IsAccepted hash accepted verified before.chain i) (one_item line other item also is) is_accepted)

  pub refuses_none : (line : List ℕ) → ((item : Item) → ¬ IsLineOf line item) → RefusesItem hash accepted verified line before
  refuses_none line none = λ item is is_accepted. none item is

-- ---- no second file

pub second_none : {A : Type 0} (bytes : A → List ℕ) (second : Option A) → second ≡ None → IsSecond (option_map bytes second) []
second_none {A} bytes second none = subst (λ (some : Option A). IsSecond (option_map bytes some) []) (sym none) refl

pub loads_first : (hash : List ℕ → List ℕ) (accepted verified : List ℕ → List ℕ → List ℕ → Type 0) (key roots : List ℕ) (second : Option (List ℕ)) (client : Client) → IsSecond second []
    → StartsFrom hash verified key (lines_of roots) (Ok client) → LoadsClient hash accepted verified key roots second (Ok client)
loads_first hash accepted verified key roots second client none starts = inr (client, [], starts, none, refl)

pub spells_nothing : (known : Known) → known ≡ nothing → Spells [] (Ok known)
spells_nothing known same = ap Ok same

-- where nothing is remembered, nothing is known of final bindings
pub nothing_known : (known : Known) (finals : Finals) → known ≡ nothing → finals ≡ no_finals → IsKnownIn known finals
nothing_known known finals none empty = subst (λ (k : Known). IsKnownIn k finals) (sym none) (subst (λ (f : Finals). IsKnownIn nothing f) (sym empty) (refl, refl))
