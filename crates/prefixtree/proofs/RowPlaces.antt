-- A place of a row, and the places of its sides.
use Rattle.std.proofs.Common.{◌≡◌, ℕ, ◌+◌, ◌-◌, ◌≤◌, List, ◌∷◌, ◌++◌, length, take, drop, refl, sym, ap, subst, ◌∙◌, arith, length-append}
use Rattle.std.proofs.lemmas.List.{drop-drop, take_at, drop_at, take-take, drop-take, length-take-le, length-drop}
use Rattle.encoding.specs.Bits.{with_one}
use Rattle.prefixtree.specs.Placement.{Items}
use Rattle.prefixtree.specs.Node.{half}
use Rattle.prefixtree.specs.Growth.{grown, grown_count, parted, standing, Comes, MayGrow}
use Rattle.prefixtree.specs.Rows.{changes_of, count_of, AreSplit, IsRowPlace, Outcomes}
use Rattle.prefixtree.specs.declared.place.Outcome.{Outcome}
use Rattle.prefixtree.specs.declared.place.Outcome.TheVariants.{Parted}
use Rattle.prefixtree.specs.declared.place.Sides.{Sides}
use Rattle.prefixtree.specs.declared.row.Place.{Place}

-- what becomes of a place, told of the changes below it
pub comes-at : (all : Items) (level : ℕ) (place : Place) (here : Items) (outcome wanted : Outcome Sides) → here ≡ changes_of all place
    → ((of : List ℕ → List ℕ) (nonce prefix : List ℕ) → MayGrow of nonce prefix level place.before here
    → Comes of nonce prefix level (standing place.before) here (grown_count (256 - level) place.before here) outcome)
    → outcome ≡ wanted → (of : List ℕ → List ℕ) (nonce : List ℕ) → IsRowPlace of nonce all level place
    → Comes of nonce place.prefix level (standing place.before) (changes_of all place) (count_of level all place) wanted
comes-at all level place here outcome wanted e h eo of nonce is =
    let told = subst (λ (l : Items). MayGrow of nonce place.prefix level place.before l
    → Comes of nonce place.prefix level (standing place.before) l (grown_count (256 - level) place.before l) outcome) e (h of nonce place.prefix) in
    subst (λ (o : Outcome Sides). Comes of nonce place.prefix level (standing place.before) (changes_of all place) (count_of level all place) o) eo (told is.at)

-- the changes below a place, parted into those of its two sides
pub parted-changes : (all here zeros ones : Items) (start end middle : ℕ) → start ≤ end → end ≤ length all → here ≡ take (end - start) (drop start all)
    → here ≡ zeros ++ ones → middle ≡ start + length zeros
    → (middle ≤ end) × (take (middle - start) (drop start all) ≡ zeros) × (take (end - middle) (drop middle all) ≡ ones)
parted-changes all here zeros ones start end middle order within is whole at =
    let n : ℕ = length zeros in
    let long : length here ≡ end - start = ap length is ∙ length-take-le (end - start) (drop start all) (omega (arith, length-drop start all)) in
    let room : n ≤ end - start = omega (arith, length-append zeros ones, ap length whole) in
    let width : middle - start ≡ n = omega arith in
    let left : end - start ≡ n + (end - middle) = omega arith in (
      omega arith,
      ap (λ (k : ℕ). take k (drop start all)) width ∙ sym (take-take n (end - start) (drop start all) room) ∙ ap (take n) (sym is ∙ whole) ∙ take_at zeros ones n refl,
      ap (λ (k : ℕ). take (end - middle) (drop k all)) at ∙ ap (take (end - middle)) (sym (drop-drop n start all)) ∙ sym (drop-take n (end - middle) (drop start all))
          ∙ ap (λ (k : ℕ). drop n (take k (drop start all))) (sym left) ∙ ap (drop n) (sym is ∙ whole) ∙ drop_at zeros ones n refl,
    )

-- a place that is parted, and those of its sides
pub split-joined : (of : List ℕ → List ℕ) (nonce : List ℕ) (all : Items) (level : ℕ) (place zero_place one_place : Place) (here zeros ones : Items)
    → IsRowPlace of nonce all level place → here ≡ changes_of all place → zeros ≡ half 0 level here → ones ≡ half 1 level here → here ≡ zeros ++ ones
    → zero_place.prefix ≡ place.prefix → zero_place.start ≡ place.start → zero_place.end ≡ place.start + length zeros
    → one_place.prefix ≡ with_one place.prefix level → one_place.start ≡ place.start + length zeros → one_place.end ≡ place.end
    → Comes of nonce place.prefix level (standing place.before) (changes_of all place) (count_of level all place) (parted zero_place.before one_place.before)
    → (places : List Place) (outcomes : Outcomes) (rest : List Place) → AreSplit of nonce all level places outcomes rest
    → AreSplit of nonce all level (place ∷ places) (Parted tt ∷ outcomes) (zero_place ∷ one_place ∷ rest)
split-joined of nonce all level place zero_place one_place here zeros ones is eh ez eo whole zp zs ze op os oe sides places outcomes rest split =
    let cut = parted-changes all here zeros ones place.start place.end (place.start + length zeros) is.order is.within eh whole refl in
    let below_zero : changes_of all zero_place ≡ half 0 level (changes_of all place) =
    (λ i. take (ze i - zs i) (drop (zs i) all)) ∙ cut.1 ∙ ez ∙ ap (half 0 level) eh in
    let below_one : changes_of all one_place ≡ half 1 level (changes_of all place) =
    (λ i. take (oe i - os i) (drop (os i) all)) ∙ cut.2 ∙ eo ∙ ap (half 1 level) eh in
    let zero_at : MayGrow of nonce zero_place.prefix (level + 1) zero_place.before (changes_of all zero_place) =
    subst (λ (p : List ℕ). MayGrow of nonce p (level + 1) zero_place.before (changes_of all zero_place)) (sym zp)
    (subst (λ (l : Items). MayGrow of nonce place.prefix (level + 1) zero_place.before l) (sym below_zero) sides.zeros) in
    let one_at : MayGrow of nonce one_place.prefix (level + 1) one_place.before (changes_of all one_place) =
    subst (λ (p : List ℕ). MayGrow of nonce p (level + 1) one_place.before (changes_of all one_place)) (sym op)
    (subst (λ (l : Items). MayGrow of nonce (with_one place.prefix level) (level + 1) one_place.before l) (sym below_one) sides.ones) in
    let zero_is : IsRowPlace of nonce all (level + 1) zero_place = record { order = omega arith; within = omega (arith, is.within, cut.0); at = zero_at } in
    let one_is : IsRowPlace of nonce all (level + 1) one_place = record { order = omega (arith, cut.0); within = omega (arith, is.within); at = one_at } in (
      sides.below_256,
      zp,
      op,
      zero_is,
      one_is,
      sides.two,
      sides.both ∙ (λ i. grown zero_place.before (sym below_zero i) ++ grown one_place.before (sym below_one i)),
      sides.counted ∙ (λ i. grown_count (256 - (level + 1)) zero_place.before (sym below_zero i) + grown_count (256 - (level + 1)) one_place.before (sym below_one i) + 1),
      split,
    )
