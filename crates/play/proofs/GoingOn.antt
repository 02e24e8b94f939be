-- The pages behind one.
use Rattle.std.proofs.Common.{◌≡◌, ℕ, ◌+◌, ◌<◌, ◌≤◌, Bool, true, false, cond, List, [], ◌∷◌, ◌++◌, take, refl, ap, subst, ◌∙◌, arith}
use Rattle.std.specs.Prelude.{filter, nat_le, nat_lt}
use Rattle.std.proofs.lemmas.Bool.{false_from_ne_true, le-leb, leb-true, lt-ltb, ltb-true}
use Rattle.book.specs.Books.{Page}
use Rattle.book.proofs.Begun.{climbs}
use Rattle.book.proofs.Sealing.{Climb}
use Rattle.play.specs.Laws.{HistoryGoesOn, MonitorsGoOn}
use Rattle.play.specs.Watchers.{ahead}

-- a page is of a later epoch than those before it
above : (epoch : ℕ) (front : List Page) (page : Page) (more : List Page) → Climb epoch (front ++ page ∷ more) → epoch < page.epoch
above epoch [] page more climb = climb.0
above epoch (first ∷ front) page more climb = let later = above first.epoch front page more climb.1 in omega (arith, later, climb.0)

module _ (test : Page → Bool) (epoch : ℕ) (passes : (page : Page) → epoch < page.epoch → test page ≡ true) (fails : (page : Page) → page.epoch ≤ epoch → test page ≡ false) where
  all-pass : (from : ℕ) (shown : List Page) → Climb from shown → epoch ≤ from → filter test shown ≡ shown
  all-pass from [] climb low = refl
  all-pass from (page ∷ more) climb low =
      ap (λ (t : Bool). cond t (page ∷ filter test more) (filter test more)) (passes page (omega (arith, low, climb.0)))
      ∙ ap (λ (rest : List Page). page ∷ rest) (all-pass page.epoch more climb.1 (omega (arith, low, climb.0)))

  behind : (from : ℕ) (front : List Page) (page : Page) (more : List Page) → Climb from (front ++ page ∷ more) → page.epoch ≡ epoch → filter test (front ++ page ∷ more) ≡ more
  behind from [] page more climb is =
      ap (λ (t : Bool). cond t (page ∷ filter test more) (filter test more)) (fails page (omega (arith, is)))
      ∙ all-pass page.epoch more climb.1 (omega (arith, is))
  behind from (first ∷ front) page more climb is =
      let low = above first.epoch front page more climb.1 in
      ap (λ (t : Bool). cond t (first ∷ filter test (front ++ page ∷ more)) (filter test (front ++ page ∷ more))) (fails first (omega (arith, is, low)))
      ∙ behind first.epoch front page more climb.1 is

pub history : HistoryGoesOn
history index_of book front more page count sound parts =
    let climb = subst (Climb 0) parts (climbs index_of book sound).climb in
    ap (λ (all : List Page). take count (filter (λ (each : Page). nat_le (page.epoch + 1) each.epoch) all)) parts
    ∙ ap (take count) (behind (λ (each : Page). nat_le (page.epoch + 1) each.epoch) page.epoch
    (λ each later. le-leb (page.epoch + 1) each.epoch (omega (arith, later)))
    (λ each low. false_from_ne_true (nat_le (page.epoch + 1) each.epoch) (λ e. let high = leb-true (page.epoch + 1) each.epoch e in absurd (omega (arith, low, high))))
    0 front page more climb refl)

pub monitors : MonitorsGoOn
monitors index_of book front more page watcher sound parts is =
    let climb = subst (Climb 0) parts (climbs index_of book sound).climb in
    ap (ahead watcher) parts
    ∙ behind (λ (each : Page). nat_lt watcher.behind each.epoch) page.epoch
    (λ each later. lt-ltb watcher.behind each.epoch (omega (arith, later, is)))
    (λ each low. false_from_ne_true (nat_lt watcher.behind each.epoch) (λ e. let high = ltb-true watcher.behind each.epoch e in absurd (omega (arith, low, high, is))))
    0 front page more climb refl
