-- What the looks of two clients tell, and what comes of it.
use Rattle.std.proofs.Common.{◌≡◌, ◌≢◌, ◌↔◌, ◌⊎◌, inl, inr, ℕ, zero, suc, List, [], ◌∷◌, slice_get, Contains, Some, refl, sym, ap, subst, ◌∙◌}
use Rattle.std.specs.List.{AllByRecursion}
use Rattle.encoding.specs.Limits.{IsName}
use Rattle.rootchain.specs.Chains.{Ascend, IsAt, KeyedRoots}
use Rattle.rootchain.specs.Comparisons.{ChainsAgree}
use Rattle.rootchain.specs.declared.signed_root.SignedRoot.{SignedRoot}
use Rattle.rootchain.proofs.Agreement.{spans-at, unique}
use Rattle.proofs.specs.Accepts.{stated, NamedReply}
use Rattle.proofs.specs.Comparisons.{Answers, AreComparable, IsOnceAccepted, StateTheSame}
use Rattle.proofs.specs.Replies.{Reply, SpellsReply}
use Rattle.proofs.specs.declared.comparing.SameOr.{SameOr}
use Rattle.proofs.specs.declared.comparing.SameOr.TheVariants as replies
use Rattle.proofs.proofs.Passing.{one_reply}
use Rattle.client.specs.Agreements.{AreFirstUnlike, AreOfOne, AreReconciled, HaveOneStatement, IsToldByLooks, LooksAgree, OutcomeHolds, OutcomeIsSpelled, SpellsOne}
use Rattle.client.specs.Clients.{IsAcceptedLook, Look}
use Rattle.client.proofs.Unlikes.{is-among}
use Rattle.client.specs.declared.outcome.Outcome.{Outcome}
use Rattle.client.specs.declared.outcome.Outcome.TheVariants.{Agree, Evidence, Collision, TwoValues}

-- where two chains agree, they have one body at an epoch of both
pub one-body : (hash : List ℕ → List ℕ) (one other : KeyedRoots) → Ascend other.roots → ChainsAgree hash one other → (epoch : ℕ) (root also : SignedRoot) → IsAt one epoch root → IsAt other epoch also → root.body ≡ also.body
one-body hash one other up agree epoch root also at at' =
    let found = (agree.alike epoch (spans-at one epoch root at, spans-at other epoch also at')).0 root at in
    found.2 ∙ ap (λ (r : SignedRoot). r.body) (unique other up epoch found.0 also found.1 at')

module _ (hash : List ℕ → List ℕ) (accepted : List ℕ → List ℕ → List ℕ → Type 0) where
  pub spelled-looks : (chain : KeyedRoots) (looks : List Look) → AllByRecursion (IsAcceptedLook hash accepted chain) looks → AllByRecursion (λ look. SpellsOne look.reply) looks
  spelled-looks chain [] all = tt
  spelled-looks chain (look ∷ looks) all = ((all.0.reply, all.0.is.0), spelled-looks chain looks all.1)

  accepted-at : (chain : KeyedRoots) (looks : List Look) → AllByRecursion (IsAcceptedLook hash accepted chain) looks → (n : ℕ) (look : Look) → slice_get looks n ≡ Some look → IsAcceptedLook hash accepted chain look
  accepted-at chain [] all n look at = absurd cc
  accepted-at chain (l ∷ looks) all zero look at = let same : l ≡ look = cc in subst (IsAcceptedLook hash accepted chain) same all.0
  accepted-at chain (l ∷ looks) all (suc n) look at = accepted-at chain looks all.1 n look at

  once : (chain : KeyedRoots) (look : Look) → IsAcceptedLook hash accepted chain look → (name bytes : List ℕ) → name ≡ look.name → bytes ≡ look.reply → IsOnceAccepted hash accepted name bytes
  once chain look is name bytes named spelled = rw (named, spelled) (is.root.body, is.reply, is.is)

  module _ (one other : KeyedRoots) (ones others : List Look) (all : AllByRecursion (IsAcceptedLook hash accepted one) ones) (all' : AllByRecursion (IsAcceptedLook hash accepted other) others)
      (look also : Look) (is : AreFirstUnlike ones others look also) where
    is-look : IsAcceptedLook hash accepted one look
    is-look = accepted-at one ones all is.i look is.at-one

    is-also : IsAcceptedLook hash accepted other also
    is-also = accepted-at other others all' is.j also is.at-other

    pub first-named : (name : List ℕ) → name ≡ look.name → IsName name
    first-named name named = rw named is-look.named

    pub first-once : (name bytes : List ℕ) → name ≡ look.name → bytes ≡ look.reply → IsOnceAccepted hash accepted name bytes
    first-once name bytes named spelled = once one look is-look name bytes named spelled

    pub second-once : (name bytes : List ℕ) → name ≡ look.name → bytes ≡ also.reply → IsOnceAccepted hash accepted name bytes
    second-once name bytes named spelled = once other also is-also name bytes (named ∙ is.unlike.0.0) spelled

    module _ (name bytes bytes' : List ℕ) (named : name ≡ look.name) (bytes-is : bytes ≡ look.reply) (bytes'-is : bytes' ≡ also.reply)
        (first second : NamedReply) (first-name : first.name ≡ name) (second-name : second.name ≡ name) (first-spelled : SpellsReply bytes first.reply) (second-spelled : SpellsReply bytes' second.reply) where
      look-spelled : SpellsReply look.reply first.reply
      look-spelled = subst (λ (b : List ℕ). SpellsReply b first.reply) bytes-is first-spelled

      also-spelled : SpellsReply also.reply second.reply
      also-spelled = subst (λ (b : List ℕ). SpellsReply b second.reply) bytes'-is second-spelled

      unlike-states : ¬ StateTheSame first second
      unlike-states same = is.unlike.1 (stated second.reply.end, (first.reply, look-spelled, same), (second.reply, also-spelled, refl))

      comparable : ((epoch : ℕ) (root other-root : SignedRoot) → IsAt one epoch root → IsAt other epoch other-root → root.body ≡ other-root.body) → AreComparable first second
      comparable bodies =
          let here = one_reply look.reply first.reply is-look.reply look-spelled is-look.is.0 in
          let there = one_reply also.reply second.reply is-also.reply also-spelled is-also.is.0 in
          let at : IsAt other look.epoch is-also.root = subst (λ (e : ℕ). IsAt other e is-also.root) (sym is.unlike.0.1) is-also.at in
          let between : is-look.root.body ≡ is-also.root.body = bodies look.epoch is-look.root is-also.root is-look.at at in (
            ap (λ (r : Reply). r.body) here ∙ is-look.is.1 ∙ between ∙ sym is-also.is.1 ∙ sym (ap (λ (r : Reply). r.body) there),
            first-name ∙ sym second-name,
          )

      pub told : (answer : SameOr) → Answers hash accepted first second answer → IsToldByLooks hash accepted ones others answer
      told answer answers =
          let of-first : first ≡ record { name = look.name; reply = first.reply } = ap (λ (n : List ℕ). record { name = n; reply = first.reply }) (first-name ∙ named) in
          let of-second : second ≡ record { name = also.name; reply = second.reply } = ap (λ (n : List ℕ). record { name = n; reply = second.reply }) (second-name ∙ named ∙ is.unlike.0.0) in
          let moved : Answers hash accepted (record { name = look.name; reply = first.reply }) second answer = subst (λ (n : NamedReply). Answers hash accepted n second answer) of-first answers in
          (look, also, is, (first.reply, second.reply, look-spelled, also-spelled, subst (λ (n : NamedReply). Answers hash accepted (record { name = look.name; reply = first.reply }) n answer) of-second moved))

      pub not-same : ¬ Answers hash accepted first second replies.Same
      not-same answers = unlike-states answers.1

      pub compared : ((epoch : ℕ) (root other-root : SignedRoot) → IsAt one epoch root → IsAt other epoch other-root → root.body ≡ other-root.body) → ¬ Answers hash accepted first second replies.NotComparable
      compared bodies answers = answers (comparable bodies)

  module _ (ones others : List Look) where
    told-apart : (answer : SameOr) → IsToldByLooks hash accepted ones others answer → ¬ LooksAgree ones others
    told-apart answer told agree = told.2.unlike.1 (agree told.0 told.1 (is-among ones told.2.i told.0 told.2.at-one) (is-among others told.2.j told.1 told.2.at-other) told.2.unlike.0)

    pub agrees : (outcome : Outcome) → AreReconciled hash accepted ones others outcome → (outcome ≡ Agree) ↔ LooksAgree ones others
    agrees Agree is = (λ same. is, λ agree. refl)
    agrees (Evidence evidence) is = absurd is
    agrees (Collision x y) is = (λ same. absurd cc, λ agree. absurd (told-apart (replies.Collision x y) is agree))
    agrees TwoValues is = (λ same. absurd cc, λ agree. absurd (told-apart replies.TwoValues is agree))

    pub looks-seen : (outcome : Outcome) → AreReconciled hash accepted ones others outcome → (look also : Look) → Contains ones look → Contains others also → AreOfOne look also
        → HaveOneStatement look also ⊎ (outcome ≢ Agree)
    looks-seen Agree is look also has-one has-other of_one = inl (is look also has-one has-other of_one)
    looks-seen (Evidence evidence) is look also has-one has-other of_one = absurd is
    looks-seen (Collision x y) is look also has-one has-other of_one = inr (λ same. absurd cc)
    looks-seen TwoValues is look also has-one has-other of_one = inr (λ same. absurd cc)

    pub looks-hold : (verified : List ℕ → List ℕ → List ℕ → Type 0) (key : List ℕ) (outcome : Outcome) → AreReconciled hash accepted ones others outcome → OutcomeHolds hash accepted verified key outcome
    looks-hold verified key Agree is = tt
    looks-hold verified key (Evidence evidence) is = absurd is
    looks-hold verified key (Collision x y) is = is.3.4.3
    looks-hold verified key TwoValues is =
        let two = is.3.4.3 in
        (_, _, _, _, two.one, two.two, two.differ)

    pub looks-spelled : (outcome : Outcome) → AreReconciled hash accepted ones others outcome → OutcomeIsSpelled outcome
    looks-spelled Agree is = tt
    looks-spelled (Evidence evidence) is = absurd is
    looks-spelled (Collision x y) is = tt
    looks-spelled TwoValues is = tt
