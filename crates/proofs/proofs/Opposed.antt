-- Two accepted replies of one name under one body with one index, which state two things.
use Rattle.std.proofs.Common.{◌≡◌, ◌≢◌, ℕ, List, length, Option, Some, None, refl, sym, ap, subst, ◌∙◌, inl, inr}
use Rattle.encoding.specs.Bytes.{Is32Bytes}
use Rattle.nodehash.specs.Collisions.{IsCollision}
use Rattle.prefixtree.proofs.Ways.{folded-Way}
use Rattle.rootchain.specs.declared.body.Body.{Body}
use Rattle.proofs.specs.declared.reply_refusal.Refusal.TheVariants.{SameIndex, PathMismatch}
use Rattle.proofs.specs.Accepts.{stated, IsAccepted, NamedReply}
use Rattle.proofs.specs.declared.comparing.SameOr.TheVariants.{Collision}
use Rattle.proofs.specs.Comparisons.{opened, texts_of, Answers, AreComparable, AreOpposed, AreTwoValues, HaveOneIndex, StandFirst}
use Rattle.proofs.specs.PathEnds.{end_text}
use Rattle.proofs.specs.Refusals.{AbsenceIsByAnother}
use Rattle.prefixtree.specs.Paths.{node_text}
use Rattle.proofs.specs.WayTexts.{way_texts, AreFirstToDiffer}
use Rattle.proofs.proofs.Colliding.{both_open, collide, nothing_is_some, same_ends, some_is, BothOpen}
use Rattle.proofs.proofs.Differing.{Found, Pair}
use Rattle.proofs.proofs.Passing.{states-passed}

module _ (hash : List ℕ → List ℕ) (accepted : List ℕ → List ℕ → List ℕ → Type 0) where
  -- the text at the end of an accepted reply's way
  abbrev pub end_of : NamedReply → List ℕ
  end_of named = end_text hash named.reply.body.nonce named.name (hash named.reply.value) (length named.reply.siblings) named.reply.end

  -- the root of an accepted reply is the hash of the topmost text on its way
  root_is : (named : NamedReply) → IsAccepted hash accepted named
      → named.reply.body.root ≡ hash (node_text hash (hash named.reply.value) 0 named.reply.siblings (end_of named))
  root_is named is =
      let passed = (states-passed hash accepted named.reply.body named.name named.reply (stated named.reply.end) is).1 in
      folded-Way hash (hash named.reply.value) named.reply.body.root named.reply.siblings (end_of named) (passed PathMismatch)

  no_leaf : (named : NamedReply) → IsAccepted hash accepted named → AbsenceIsByAnother (hash named.reply.value) named.reply.end
  no_leaf named is = (states-passed hash accepted named.reply.body named.name named.reply (stated named.reply.end) is).1 SameIndex

  -- two indices are those of two values
  pub two_values : (first second : NamedReply) → AreComparable first second → (HaveOneIndex hash first second → ⊥) → IsAccepted hash accepted first → IsAccepted hash accepted second
      → AreTwoValues accepted first second
  two_values first second comparable differ is_first is_second =
      record {
        one = is_first.value;
        two = subst (λ (name : List ℕ). accepted first.reply.body.vuf_key name second.reply.value) (sym comparable.1)
            (subst (λ (body : Body). accepted body.vuf_key second.name second.reply.value) (sym comparable.0) is_second.value);
        differ = λ same. differ (ap hash same);
      }

  -- what is found on the ways of two replies of one index, by what was computed of each
  pub found_on : (first second : NamedReply) → HaveOneIndex hash first second → (index : List ℕ) (siblings others : List (List ℕ)) (end other_end : List ℕ) (found : Option Pair)
      → index ≡ hash first.reply.value → siblings ≡ first.reply.siblings → others ≡ second.reply.siblings → end ≡ end_of first → other_end ≡ end_of second
      → Found (way_texts hash index 0 siblings end) (way_texts hash index 0 others other_end) found → Found (texts_of hash first) (texts_of hash second) found
  found_on first second one index siblings others end other_end found index_is siblings_are others_are end_is other_end_is is =
      let first_are : way_texts hash index 0 siblings end ≡ texts_of hash first = rw (index_is, siblings_are, end_is) refl in
      let second_are : way_texts hash index 0 others other_end ≡ texts_of hash second =
      rw (index_is, others_are, other_end_is) (ap (λ (i : List ℕ). way_texts hash i 0 second.reply.siblings (end_of second)) one) in
      subst (λ (texts : List (List ℕ)). Found texts (texts_of hash second) found) first_are
      (subst (λ (texts : List (List ℕ)). Found (way_texts hash index 0 siblings end) texts found) second_are is)

  module _ (size : (text : List ℕ) → Is32Bytes (hash text)) (first second : NamedReply) (opposed : AreOpposed hash accepted first second) where
    -- the texts on the second way, with the index of the first
    abbrev pub second_texts : List (List ℕ)
    second_texts = way_texts hash (hash first.reply.value) 0 second.reply.siblings (end_of second)

    second_texts_are : second_texts ≡ texts_of hash second
    second_texts_are = ap (λ (index : List ℕ). way_texts hash index 0 second.reply.siblings (end_of second)) opposed.one

    second_root : hash (node_text hash (hash first.reply.value) 0 second.reply.siblings (end_of second)) ≡ first.reply.body.root
    second_root =
        ap (λ (index : List ℕ). hash (node_text hash index 0 second.reply.siblings (end_of second))) opposed.one
        ∙ sym (root_is second opposed.is_second) ∙ ap (λ (body : Body). body.root) (sym opposed.comparable.0)

    nodes_collide : (x y : List ℕ) → AreFirstToDiffer (texts_of hash first) second_texts x y → IsCollision hash x y × StandFirst hash first second x y
    nodes_collide x y differing = (
      collide hash size (hash first.reply.value) 0 first.reply.siblings second.reply.siblings (end_of first) (end_of second) x y opposed.first_form.3.1 opposed.second_form.3.1 differing
          (sym (root_is first opposed.is_first) ∙ sym second_root),
      inl (subst (λ (texts : List (List ℕ)). AreFirstToDiffer (texts_of hash first) texts x y) second_texts_are differing),
    )

    second_end : end_of second ≡ end_text hash first.reply.body.nonce first.name (hash first.reply.value) (length second.reply.siblings) second.reply.end
    second_end =
        ap (λ (body : Body). end_text hash body.nonce second.name (hash second.reply.value) (length second.reply.siblings) second.reply.end) (sym opposed.comparable.0)
        ∙ ap (λ (name : List ℕ). end_text hash first.reply.body.nonce name (hash second.reply.value) (length second.reply.siblings) second.reply.end) (sym opposed.comparable.1)
        ∙ ap (λ (index : List ℕ). end_text hash first.reply.body.nonce first.name index (length second.reply.siblings) second.reply.end) (sym opposed.one)

    ends_open : texts_of hash first ≡ second_texts → BothOpen hash first.name first.reply.end second.reply.end
    ends_open same =
        both_open hash first.reply.body.nonce first.name (hash first.reply.value) opposed.named (size first.reply.value).0 (length first.reply.siblings) (length second.reply.siblings)
        first.reply.end second.reply.end opposed.first_form.2 opposed.second_form.2 (no_leaf first opposed.is_first)
        (subst (λ (index : List ℕ). AbsenceIsByAnother index second.reply.end) (sym opposed.one) (no_leaf second opposed.is_second)) opposed.differ
        (same_ends hash size (hash first.reply.value) 0 first.reply.siblings second.reply.siblings (end_of first) (end_of second) same ∙ second_end)

    commitments_collide : (x y : List ℕ) → texts_of hash first ≡ second_texts → opened first.name first.reply.end ≡ Some x → opened second.name second.reply.end ≡ Some y
        → IsCollision hash x y × StandFirst hash first second x y
    commitments_collide x y same x_is y_is =
        let both = ends_open same in
        let x_same : both.x ≡ x = some_is both.x x (sym both.x_is ∙ x_is) in
        let y_same : both.y ≡ y = some_is both.y y (sym both.y_is ∙ ap (λ (name : List ℕ). opened name second.reply.end) opposed.comparable.1 ∙ y_is) in
        (subst (λ (z : List ℕ). IsCollision hash z y) x_same (subst (λ (z : List ℕ). IsCollision hash both.x z) y_same both.collision), inr (same ∙ second_texts_are, x_is, y_is))

    pub nodes_answer : (x y : List ℕ) → AreFirstToDiffer (texts_of hash first) (texts_of hash second) x y → Answers hash accepted first second (Collision x y)
    nodes_answer x y differing =
        let r = nodes_collide x y (subst (λ (texts : List (List ℕ)). AreFirstToDiffer (texts_of hash first) texts x y) (sym second_texts_are) differing) in
        (opposed.comparable, opposed.differ, opposed.one, r.0, r.1)

    -- where no texts differ, both ends open a commitment
    pub first_opens : texts_of hash first ≡ texts_of hash second → opened first.name first.reply.end ≢ None
    first_opens same none =
        let both = ends_open (same ∙ sym second_texts_are) in
        nothing_is_some both.x (sym none ∙ both.x_is)

    pub second_opens : texts_of hash first ≡ texts_of hash second → opened second.name second.reply.end ≢ None
    second_opens same none =
        let both = ends_open (same ∙ sym second_texts_are) in
        nothing_is_some both.y (sym none ∙ ap (λ (name : List ℕ). opened name second.reply.end) (sym opposed.comparable.1) ∙ both.y_is)

    pub commitments_answer : (x y : List ℕ) → texts_of hash first ≡ texts_of hash second → opened first.name first.reply.end ≡ Some x → opened second.name second.reply.end ≡ Some y
        → Answers hash accepted first second (Collision x y)
    commitments_answer x y same x_is y_is =
        let r = commitments_collide x y (same ∙ sym second_texts_are) x_is y_is in
        (opposed.comparable, opposed.differ, opposed.one, r.0, r.1)
