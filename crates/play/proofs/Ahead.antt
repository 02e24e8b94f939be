-- The pages that are ahead of an epoch, where pages ascend.
use Rattle.std.proofs.Common.{◌≡◌, ℕ, ◌<◌, ◌≤◌, List, [], ◌∷◌, filter, nat_lt, Bool, true, false, cond, Contains, refl, sym, ap, subst, inl, inr, ◌∙◌, arith}
use Rattle.std.proofs.lemmas.Bool.{lt-ltb, ltb-false, ltb-true, false_from_ne_true}
use Rattle.book.specs.Books.{Page}
use Rattle.book.proofs.Members.{first-or-later, first-there, later-there, none-there}
use Rattle.book.proofs.Sealing.{Climb}

abbrev pub is_ahead : ℕ → Page → Bool
is_ahead behind page = nat_lt behind page.epoch

pub above-all : (epoch : ℕ) (pages : List Page) → Climb epoch pages → (page : Page) → Contains pages page → epoch < page.epoch
above-all epoch [] climb page there = absurd (none-there page there)
above-all epoch (first ∷ pages) climb page there = elim (first-or-later first pages page there) [
  | inl same ↦ subst (λ (p : Page). epoch < p.epoch) same climb.0
  | inr later ↦ let above = above-all first.epoch pages climb.1 page later in omega (arith, climb.0, above)
]

-- two pages of one epoch are one page
pub one-page : (epoch : ℕ) (pages : List Page) → Climb epoch pages → (page other : Page) → Contains pages page → Contains pages other → page.epoch ≡ other.epoch → page ≡ other
one-page epoch [] climb page other there also same = absurd (none-there page there)
one-page epoch (first ∷ pages) climb page other there also same = elim (first-or-later first pages page there) [
  | inl is ↦ elim (first-or-later first pages other also) [
    | inl too ↦ sym is ∙ too
    | inr later ↦ absurd (clash page other is later same)
  ]
  | inr later ↦ elim (first-or-later first pages other also) [
    | inl too ↦ absurd (clash other page too later (sym same))
    | inr farther ↦ one-page first.epoch pages climb.1 page other later farther same
  ]
]
  where
    clash : (one two : Page) → first ≡ one → Contains pages two → one.epoch ≡ two.epoch → ⊥
    clash one two is later e =
        let f : first.epoch ≡ one.epoch = ap (λ (p : Page). p.epoch) is in
        let above = above-all first.epoch pages climb.1 two later in
        omega (arith, e, f, above)

all-ahead : (behind epoch : ℕ) (pages : List Page) → Climb epoch pages → behind ≤ epoch → filter (is_ahead behind) pages ≡ pages
all-ahead behind epoch [] climb low = refl
all-ahead behind epoch (page ∷ pages) climb low =
    ap (λ (t : Bool). cond t (page ∷ filter (is_ahead behind) pages) (filter (is_ahead behind) pages)) (lt-ltb behind page.epoch (omega (arith, low, climb.0)))
    ∙ ap (λ (more : List Page). page ∷ more) (all-ahead behind page.epoch pages climb.1 (omega (arith, low, climb.0)))

not-ahead : (behind : ℕ) (page : Page) → page.epoch ≤ behind → is_ahead behind page ≡ false
not-ahead behind page low = false_from_ne_true (nat_lt behind page.epoch) (λ is. let less = ltb-true behind page.epoch is in omega (arith, less, low))

-- the page with the least epoch that is ahead is the first, and then come those ahead of it
pub first-ahead : (behind epoch : ℕ) (pages : List Page) → Climb epoch pages → (page : Page) → Contains pages page → behind < page.epoch
    → ((other : Page) → Contains pages other → behind < other.epoch → page.epoch ≤ other.epoch)
    → filter (is_ahead behind) pages ≡ page ∷ filter (is_ahead page.epoch) pages
first-ahead behind epoch [] climb page there after least = absurd (none-there page there)
first-ahead behind epoch (first ∷ pages) climb page there after least =
    by (nat_lt behind first.epoch) refl (λ later. first-ahead behind first.epoch pages climb.1 page later after (λ other is. least other (later-there first pages other is)))
  where
    without : first.epoch ≤ page.epoch → filter (is_ahead page.epoch) (first ∷ pages) ≡ filter (is_ahead page.epoch) pages
    without low = ap (λ (t : Bool). cond t (first ∷ filter (is_ahead page.epoch) pages) (filter (is_ahead page.epoch) pages)) (not-ahead page.epoch first low)

    here : behind < first.epoch → first ≡ page → first ∷ filter (is_ahead behind) pages ≡ page ∷ filter (is_ahead page.epoch) (first ∷ pages)
    here over is =
        let e : first.epoch ≡ page.epoch = ap (λ (p : Page). p.epoch) is in
        let all : filter (is_ahead behind) pages ≡ pages = all-ahead behind first.epoch pages climb.1 (omega (arith, over)) in
        let also : filter (is_ahead page.epoch) pages ≡ pages = all-ahead page.epoch first.epoch pages climb.1 (omega (arith, e)) in
        let skip : filter (is_ahead page.epoch) (first ∷ pages) ≡ filter (is_ahead page.epoch) pages = without (omega (arith, e)) in
        ap (λ (p : Page). p ∷ filter (is_ahead behind) pages) is ∙ ap (λ (more : List Page). page ∷ more) (all ∙ sym also ∙ sym skip)

    by : (t : Bool) → nat_lt behind first.epoch ≡ t → (Contains pages page → filter (is_ahead behind) pages ≡ page ∷ filter (is_ahead page.epoch) pages)
        → cond t (first ∷ filter (is_ahead behind) pages) (filter (is_ahead behind) pages) ≡ page ∷ filter (is_ahead page.epoch) (first ∷ pages)
    by true is more = elim (first-or-later first pages page there) [
      | inl same ↦ here (ltb-true behind first.epoch is) same
      | inr later ↦
          let above = above-all first.epoch pages climb.1 page later in
          let low = least first (first-there first pages) (ltb-true behind first.epoch is) in
          absurd (omega (arith, above, low))
    ]
    by false is more =
        let low : first.epoch ≤ behind = ltb-false behind first.epoch is in
        let skip : filter (is_ahead page.epoch) (first ∷ pages) ≡ filter (is_ahead page.epoch) pages = without (omega (arith, low, after)) in
        elim (first-or-later first pages page there) [
          | inl same ↦ let e : first.epoch ≡ page.epoch = ap (λ (p : Page). p.epoch) same in absurd (omega (arith, e, low, after))
          | inr later ↦ more later ∙ ap (λ (rest : List Page). page ∷ rest) (sym skip)
        ]

-- no page is ahead of one that none is above
pub none-ahead : (behind : ℕ) (pages : List Page) → ((page : Page) → Contains pages page → behind < page.epoch → ⊥) → filter (is_ahead behind) pages ≡ []
none-ahead behind [] none = refl
none-ahead behind (page ∷ pages) none =
    ap (λ (t : Bool). cond t (page ∷ filter (is_ahead behind) pages) (filter (is_ahead behind) pages))
    (false_from_ne_true (nat_lt behind page.epoch) (λ is. none page (first-there page pages) (ltb-true behind page.epoch is)))
    ∙ none-ahead behind pages (λ other is. none other (later-there page pages other is))
