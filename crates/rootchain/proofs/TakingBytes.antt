-- A list in bytes is taken as its roots are read, and what comes of it says what comes of the list.
use Rattle.std.proofs.Common.{◌≡◌, ◌≢◌, ◌↔◌, ℕ, suc, ◌<◌, Bool, true, false, IsTrue, List, [], ◌∷◌, ◌++◌, Result, Ok, Err, refl, sym, ap, subst, ◌∙◌, append_assoc, inl, inr, arith, IfErr}
use Rattle.std.specs.List.{AllByRecursion}
use Rattle.encoding.specs.declared.fault.Fault.{Fault}
use Rattle.encoding.specs.Bytes.{IsBytes}
use Rattle.encoding.specs.Reading.{◌>>=◌, read_list}
use Rattle.encoding.proofs.Fields.{bind_ok, ok_is, refused_read}
use Rattle.rootchain.specs.declared.chain.taking_pieces.Outcome.{Outcome}
use Rattle.rootchain.specs.declared.chain.taking_pieces.Outcome.TheVariants as outcome
use Rattle.rootchain.specs.declared.signed_root.SignedRoot.{SignedRoot}
use Rattle.rootchain.specs.declared.list_refusal.ListRefusal.{ListRefusal}
use Rattle.rootchain.specs.declared.list_refusal.ListRefusal.TheVariants as list
use Rattle.rootchain.specs.declared.piece_refusal.PieceRefusal.{PieceRefusal}
use Rattle.rootchain.specs.declared.piece_refusal.PieceRefusal.TheVariants.{Malformed}
use Rattle.rootchain.specs.Chains.{IsChain, KeyedRoots}
use Rattle.rootchain.specs.RootLists.{read_root_count, read_roots, HasRoots}
use Rattle.rootchain.specs.SignedRoots.{read_signed_root, IsSignedRoot}
use Rattle.rootchain.specs.TakingBytes.{refused_if, TakesBytes, TakesRead}
use Rattle.rootchain.specs.TakingLists.{with_roots, IsRefusedRoot, PassesOrAdds, Takes, ListRefusalHolds, ListRefusalIsSpelled}
use Rattle.rootchain.specs.TakingPieces.{of_piece, piece_answer, PieceRefusalHolds, PieceRefusalIsSpelled}
use Rattle.rootchain.proofs.RootLists.{are_spelled, no_count, none_more, none_spelled, no_roots, one_more, roots_many}
use Rattle.rootchain.proofs.TakingLists.{grows-nothing, memory-refused, stop-holds, stop-spelled, takes-grows, takes-spelled}
use Rattle.rootchain.proofs.TakingPieces.{takes-append}

never : false ≡ true → ⊥
never e = cc

-- ---- the roots that are left

-- those after the first
roots-later : (next : ℕ) (bytes : List ℕ) (root : SignedRoot) (after : List ℕ) → read_signed_root bytes ≡ Ok (root, after) → HasRoots (suc next) bytes → HasRoots next after
unfolding read_roots
roots-later next bytes root after one has =
    let u = bind_ok (read_signed_root bytes) (λ x. read_list read_signed_root next x.1 >>= λ xs. Ok (x.0 ∷ xs.0, xs.1)) _ has.1 in
    let v = bind_ok (read_list read_signed_root next u.0.1) (λ xs. Ok (u.0.0 ∷ xs.0, xs.1)) _ u.2 in
    let left : u.0.1 ≡ after = ap (λ (z : SignedRoot × List ℕ). z.1) (ok_is _ _ (sym u.1 ∙ one)) in
    let over : v.0.1 ≡ [] = ap (λ (z : List SignedRoot × List ℕ). z.1) (ok_is (u.0.0 ∷ v.0.0, v.0.1) (has.0, []) v.2) in
    (v.0.0, ap (read_list read_signed_root next) (sym left) ∙ v.1 ∙ ap (λ (z : List ℕ). Ok (v.0.0, z)) over)

-- none is there where the first is none
no-first : (next : ℕ) (bytes : List ℕ) (fault : Fault) → read_signed_root bytes ≡ Err fault → ¬ HasRoots (suc next) bytes
no-first next bytes fault one has = refused_read fault (has.0, []) (sym (none_more next bytes fault one) ∙ has.1)

no-more : (bytes : List ℕ) (roots : List SignedRoot) (rest : List ℕ) → read_roots 0 bytes ≡ Ok (roots, rest) → (roots ≡ []) × (bytes ≡ rest)
no-more bytes roots rest e =
    let same = ok_is ([], bytes) (roots, rest) (sym (no_roots bytes) ∙ e) in
    (ap (λ (z : List SignedRoot × List ℕ). z.0) (sym same), ap (λ (z : List SignedRoot × List ℕ). z.1) same)

module _ (hash : List ℕ → List ℕ) (verified : List ℕ → List ℕ → List ℕ → Type 0) where
  -- ---- one root after another

  -- some roots are taken, and those that are left complete the list
  pub record Along (start : KeyedRoots) (count : ℕ) (bytes : List ℕ) (now : KeyedRoots) (left : ℕ) (rest : List ℕ) : Type 0 where
    pub front : List SignedRoot
    pub takes : Takes hash verified start front now
    pub leads : (more : List SignedRoot) → read_roots left rest ≡ Ok (more, []) → read_roots count bytes ≡ Ok (front ++ more, [])
    pub back : HasRoots count bytes → HasRoots left rest

  pub along-begin : (start : KeyedRoots) (count : ℕ) (bytes : List ℕ) → Along start count bytes start count bytes
  along-begin start count bytes = record { front = []; takes = refl; leads = λ more e. e; back = λ has. has }

  module _ (start : KeyedRoots) (count : ℕ) (bytes : List ℕ) (now : KeyedRoots) where
    -- one more root was read
    module _ (left next : ℕ) (rest : List ℕ) (root : SignedRoot) (after : List ℕ) (same : left ≡ suc next) (one : read_signed_root rest ≡ Ok (root, after)) (along : Along start count bytes now left rest) where
      joins : (more : List SignedRoot) → read_roots next after ≡ Ok (more, []) → read_roots count bytes ≡ Ok (along.front ++ root ∷ more, [])
      joins more e = along.leads (root ∷ more) (subst (λ (n : ℕ). read_roots n rest ≡ Ok (root ∷ more, [])) (sym same) (one_more next rest root after more [] one e))

      later : HasRoots count bytes → HasRoots next after
      later has = roots-later next rest root after one (subst (λ (n : ℕ). HasRoots n rest) same (along.back has))

      pub along-step : (middle : KeyedRoots) → PassesOrAdds hash verified now root middle → Along start count bytes middle next after
      along-step middle passes = record {
        front = along.front ++ root ∷ [];
        takes = takes-append hash verified along.front (root ∷ []) start now middle along.takes (middle, passes, refl);
        leads = λ more e. joins more e ∙ ap (λ (rs : List SignedRoot). Ok (rs, [])) (sym (append_assoc along.front (root ∷ []) more));
        back = later;
      }

      -- it is refused, and those after it are there
      along-refused : (why : ListRefusal) (stays : KeyedRoots) → IsRefusedRoot hash verified now root why → stays ≡ now → HasRoots next after → TakesRead hash verified start count bytes outcome.Refused why stays
      along-refused why stays refusal is has = (
        along.front ++ root ∷ has.0,
        joins has.0 has.1,
        (along.front, root, has.0, refl, rw is along.takes, rw is refusal),
      )

      along-broken : (why : ListRefusal) (stays : KeyedRoots) → stays ≡ now → ¬ HasRoots next after → TakesRead hash verified start count bytes outcome.Malformed why stays
      along-broken why stays is none = ((λ has. none (later has)), rw is (takes-grows hash verified along.front start now along.takes))

      -- it is refused: what comes of the list is known once those after it are read
      pub along-stopped : (is : Bool) → IsTrue is ↔ HasRoots next after → (why : ListRefusal) (stays : KeyedRoots) → IsRefusedRoot hash verified now root why → stays ≡ now → TakesRead hash verified start count bytes (refused_if is) why stays
      along-stopped true there why stays refusal is = along-refused why stays refusal is (there.0 refl)
      along-stopped false there why stays refusal is = along-broken why stays is (λ has. never (there.1 has))

    -- no root stands there
    pub along-fault : (left next : ℕ) (rest : List ℕ) (fault : Fault) (why : ListRefusal) → left ≡ suc next → read_signed_root rest ≡ Err fault → Along start count bytes now left rest
        → TakesRead hash verified start count bytes outcome.Malformed why now
    along-fault left next rest fault why same one along =
        ((λ has. no-first next rest fault one (subst (λ (n : ℕ). HasRoots n rest) same (along.back has))), takes-grows hash verified along.front start now along.takes)

    -- all roots are read
    pub along-end : (left : ℕ) (rest : List ℕ) (why : ListRefusal) → left ≡ 0 → rest ≡ [] → Along start count bytes now left rest → TakesRead hash verified start count bytes outcome.Taken why now
    along-end left rest why same over along =
        let none : read_roots left rest ≡ Ok ([], []) = rw (same, over) (no_roots []) in
        (along.front ++ [], along.leads [] none, takes-append hash verified along.front [] start now now along.takes refl)

    pub along-left : (left : ℕ) (rest : List ℕ) (why : ListRefusal) → left ≡ 0 → rest ≢ [] → Along start count bytes now left rest → TakesRead hash verified start count bytes outcome.Malformed why now
    along-left left rest why same some along = (
      (λ has. let few = subst (λ (n : ℕ). HasRoots n rest) same (along.back has) in some ((no-more rest few.0 [] few.1).1)),
      takes-grows hash verified along.front start now along.takes,
    )

  pub read-grows : (start : KeyedRoots) (count : ℕ) (bytes : List ℕ) (what : Outcome) (why : ListRefusal) (after : KeyedRoots) → TakesRead hash verified start count bytes what why after
      → (more : List SignedRoot) × (after ≡ with_roots start more)
  read-grows start count bytes outcome.Taken why after read = takes-grows hash verified read.0 start after read.2
  read-grows start count bytes outcome.Refused why after read = takes-grows hash verified read.2.0 start after read.2.4
  read-grows start count bytes outcome.Malformed why after read = read.1

  -- ---- what comes of the bytes

  pub bytes-uncounted : (chain : KeyedRoots) (bytes : List ℕ) (fault : Fault) → read_root_count bytes ≡ Err fault → TakesBytes hash verified {A = Unit} chain bytes (Err Malformed) chain
  bytes-uncounted chain bytes fault none = (refl, inl (no_count bytes fault none, refl))

  module _ (chain : KeyedRoots) (bytes : List ℕ) (count : ℕ) (rest : List ℕ) (small : IsBytes bytes) (counted : read_root_count bytes ≡ Ok (count, rest)) where
    -- there is no room for so many roots
    pub bytes-crowded : 0 < count → (is : Bool) → IsTrue is ↔ HasRoots count rest → (after : KeyedRoots) → after ≡ chain
        → TakesBytes hash verified {A = Unit} chain bytes (piece_answer (refused_if is) list.Memory) after
    bytes-crowded some true there after stays =
        let has = there.0 refl in
        let many = roots_many count rest has.0 [] has.1 in
        (stays, inr (has.0, list.Memory, are_spelled bytes count rest has.0 small counted has.1, memory-refused hash verified chain has.0 (omega (arith, many, some)), refl))
    bytes-crowded some false there after stays = (stays, inl (none_spelled bytes count rest counted (λ has. never (there.1 has)), refl))

    pub bytes-taken : (why : ListRefusal) (after : KeyedRoots) → TakesRead hash verified chain count rest outcome.Taken why after → TakesBytes hash verified {A = Unit} chain bytes (Ok tt) after
    bytes-taken why after read = (read.0, are_spelled bytes count rest read.0 small counted read.1, read.2)

    pub bytes-malformed : (why : ListRefusal) (middle after : KeyedRoots) → TakesRead hash verified chain count rest outcome.Malformed why middle → after ≡ chain → TakesBytes hash verified {A = Unit} chain bytes (Err Malformed) after
    bytes-malformed why middle after read stays = (stays, inl (none_spelled bytes count rest counted read.0, refl))

    pub bytes-refused : (why : ListRefusal) (middle after : KeyedRoots) → TakesRead hash verified chain count rest outcome.Refused why middle → after ≡ chain → TakesBytes hash verified {A = Unit} chain bytes (Err (of_piece why)) after
    bytes-refused why middle after read stays = (stays, inr (read.0, why, are_spelled bytes count rest read.0 small counted read.1, (middle, read.2), refl))

  -- ---- what comes of the chain

  pub bytes-grow : {A : Type 0} (chain : KeyedRoots) (bytes : List ℕ) (answer : Result A PieceRefusal) (after : KeyedRoots) → TakesBytes hash verified chain bytes answer after
      → (more : List SignedRoot) × (after ≡ with_roots chain more)
  bytes-grow chain bytes (Ok _) after takes = takes-grows hash verified takes.0 chain after takes.2
  bytes-grow chain bytes (Err why) after takes = ([], takes.0 ∙ grows-nothing chain)

  pub bytes-formed : {A : Type 0} (chain : KeyedRoots) (bytes : List ℕ) (answer : Result A PieceRefusal) (after : KeyedRoots) → TakesBytes hash verified chain bytes answer after
      → AllByRecursion IsSignedRoot chain.roots → AllByRecursion IsSignedRoot after.roots
  bytes-formed chain bytes (Ok _) after takes own = takes-spelled hash verified takes.0 chain after own takes.1.1.1 takes.2
  bytes-formed chain bytes (Err why) after takes own = subst (λ (c : KeyedRoots). AllByRecursion IsSignedRoot c.roots) (sym takes.0) own

  piece-of-holds : (key : List ℕ) (why : ListRefusal) → ListRefusalHolds hash verified key why → PieceRefusalHolds hash verified key (of_piece why)
  piece-of-holds key list.Memory holds = tt
  piece-of-holds key list.BadSignature holds = holds
  piece-of-holds key list.BeforeStart holds = holds
  piece-of-holds key list.Ahead holds = holds
  piece-of-holds key (list.Evidence evidence) holds = holds

  piece-of-spelled : (why : ListRefusal) → ListRefusalIsSpelled why → PieceRefusalIsSpelled (of_piece why)
  piece-of-spelled list.Memory spelled = tt
  piece-of-spelled list.BadSignature spelled = spelled
  piece-of-spelled list.BeforeStart spelled = spelled
  piece-of-spelled list.Ahead spelled = spelled
  piece-of-spelled (list.Evidence evidence) spelled = spelled

  pub bytes-hold : {A : Type 0} (chain : KeyedRoots) (bytes : List ℕ) (answer : Result A PieceRefusal) (after : KeyedRoots) → IsChain hash verified chain → TakesBytes hash verified chain bytes answer after
      → IfErr answer (PieceRefusalHolds hash verified chain.key)
  bytes-hold chain bytes (Ok _) after is takes = tt
  bytes-hold chain bytes (Err why) after is takes = elim takes.1 [
    | inl none ↦ rw none.1 tt
    | inr stop ↦ rw stop.4 (piece-of-holds chain.key stop.1 (stop-holds hash verified chain stop.0 stop.1 stop.3.0 is stop.3.1))
  ]

  pub bytes-spelled : {A : Type 0} (chain : KeyedRoots) (bytes : List ℕ) (answer : Result A PieceRefusal) (after : KeyedRoots) → IsChain hash verified chain → TakesBytes hash verified chain bytes answer after
      → AllByRecursion IsSignedRoot chain.roots → IfErr answer PieceRefusalIsSpelled
  bytes-spelled chain bytes (Ok _) after is takes own = tt
  bytes-spelled chain bytes (Err why) after is takes own = elim takes.1 [
    | inl none ↦ rw none.1 tt
    | inr stop ↦ rw stop.4 (piece-of-spelled stop.1 (stop-spelled hash verified chain stop.0 stop.1 stop.3.0 is own stop.2.1.1 stop.3.1))
  ]
