-- What comes of a piece, and of one piece after another.
use Rattle.std.proofs.Common.{◌≡◌, ◌≢◌, ◌⊎◌, ℕ, List, [], ◌∷◌, ◌++◌, Result, Ok, Err, refl, sym, ap, subst, ◌∙◌, append_assoc, arith, length, length-append, inl, inr, IfErr}
use Rattle.encoding.specs.Bytes.{joined}
use Rattle.rootchain.specs.declared.signed_root.SignedRoot.{SignedRoot}
use Rattle.rootchain.specs.declared.list_refusal.ListRefusal.{ListRefusal}
use Rattle.rootchain.specs.declared.list_refusal.ListRefusal.TheVariants as list
use Rattle.rootchain.specs.declared.piece_refusal.PieceRefusal.{PieceRefusal}
use Rattle.rootchain.specs.declared.piece_refusal.PieceRefusal.TheVariants.{Malformed, Root, Memory}
use Rattle.rootchain.specs.Chains.{IsChain, KeyedRoots}
use Rattle.rootchain.specs.RootFeeds.{told_from, FeedState, Counts, Done, Failed}
use Rattle.rootchain.specs.TakingLists.{with_roots, StopsAt, Takes}
use Rattle.rootchain.specs.TakingPieces.{first_refusal, of_piece, CuttingDoesNotMatter, DoneIsAList, FailsAtTooMany, FailsBehindAList, MalformedBeginsNoList, PieceRefusalHolds, PiecesComeToOne, TakesFewBytes, TakesPiece, TakesPieces, TakesTold, TakesUpTo, TakesWholeRoots}
use Rattle.rootchain.proofs.RootFeeds.{behind-fails, from-more, from-nothing, from-start, list-few, list-is, list-spelled, too-many-fail, whole-told}
use Rattle.rootchain.proofs.TakingLists.{grows-nothing, stop-holds, takes-chain, takes-grows}

module _ (hash : List ℕ → List ℕ) (verified : List ℕ → List ℕ → List ℕ → Type 0) where
  pub told-stops : (chain : KeyedRoots) (held : FeedState) (piece : List ℕ) (why : ListRefusal) (after : KeyedRoots) (held' : FeedState) → StopsAt hash verified chain (told_from held piece).0 why after
      → TakesTold hash verified {A = Unit} chain held piece (Err (of_piece why)) after held'
  told-stops chain held piece list.Memory after held' stops = stops
  told-stops chain held piece list.BadSignature after held' stops = (stops, λ e. cc)
  told-stops chain held piece list.BeforeStart after held' stops = (stops, λ e. cc)
  told-stops chain held piece list.Ahead after held' stops = (stops, λ e. cc)
  told-stops chain held piece (list.Evidence evidence) after held' stops = (stops, λ e. cc)

  pub told-refused : (chain : KeyedRoots) (held : FeedState) (piece : List ℕ) (why : ListRefusal) (after : KeyedRoots) (held' : FeedState) → TakesTold hash verified {A = Unit} chain held piece (Err (of_piece why)) after held'
      → why ≢ list.Memory → TakesPiece hash verified {A = Unit} chain held piece (Err (of_piece why)) after Failed
  told-refused chain held piece list.Memory after held' stops other = absurd (other refl)
  told-refused chain held piece list.BadSignature after held' stops other = (stops.0, other, refl)
  told-refused chain held piece list.BeforeStart after held' stops other = (stops.0, other, refl)
  told-refused chain held piece list.Ahead after held' stops other = (stops.0, other, refl)
  told-refused chain held piece (list.Evidence evidence) after held' stops other = (stops.0, other, refl)

  -- ---- roots in two parts

  pub takes-append : (roots more : List SignedRoot) (chain middle after : KeyedRoots) → Takes hash verified chain roots middle → Takes hash verified middle more after → Takes hash verified chain (roots ++ more) after
  takes-append [] more chain middle after takes later = subst (λ (c : KeyedRoots). Takes hash verified c more after) takes later
  takes-append (root ∷ roots) more chain middle after takes later = (takes.0, takes.1, takes-append roots more takes.0 middle after takes.2 later)

  stops-after : (roots more : List SignedRoot) (chain middle : KeyedRoots) (why : ListRefusal) (after : KeyedRoots) → Takes hash verified chain roots middle → StopsAt hash verified middle more why after
      → StopsAt hash verified chain (roots ++ more) why after
  stops-after roots more chain middle why after takes stops = (
    roots ++ stops.0,
    stops.1,
    stops.2,
    ap (λ (rs : List SignedRoot). roots ++ rs) stops.3 ∙ sym (append_assoc roots stops.0 (stops.1 ∷ stops.2)),
    takes-append roots stops.0 chain middle after takes stops.4,
    stops.5,
  )

  stops-before : (roots more : List SignedRoot) (chain : KeyedRoots) (why : ListRefusal) (after : KeyedRoots) → StopsAt hash verified chain roots why after → StopsAt hash verified chain (roots ++ more) why after
  stops-before roots more chain why after stops = (
    stops.0,
    stops.1,
    stops.2 ++ more,
    ap (λ (rs : List SignedRoot). rs ++ more) stops.3 ∙ append_assoc stops.0 (stops.1 ∷ stops.2) more,
    stops.4,
    stops.5,
  )

  -- ---- call after call

  no-stop : (chain : KeyedRoots) (why : ListRefusal) (after : KeyedRoots) → StopsAt hash verified chain [] why after → ⊥
  no-stop chain why after ([], root, rest, same, _, _) = absurd cc
  no-stop chain why after (first ∷ front, root, rest, same, _, _) = absurd cc

  -- a feed that failed takes no more
  failed-stays : (chain : KeyedRoots) (pieces : List (List ℕ)) (answers : List (Result Unit PieceRefusal)) (after : KeyedRoots) (held' : FeedState)
      → TakesPieces hash verified chain Failed pieces answers after held' → (after ≡ chain) × (held' ≡ Failed)
  failed-stays chain [] [] after held' calls = calls
  failed-stays chain [] (answer ∷ answers) after held' calls = absurd calls
  failed-stays chain (piece ∷ pieces) [] after held' calls = absurd calls
  failed-stays chain (piece ∷ pieces) (Ok _ ∷ answers) after held' (middle, between, one, _, later) = absurd (one.2 one.1)
  failed-stays chain (piece ∷ pieces) (Err Malformed ∷ answers) after held' (middle, between, one, _, later) =
      let rest = failed-stays middle pieces answers after held' (subst (λ (h : FeedState). TakesPieces hash verified middle h pieces answers after held') one.2 later) in
      (rest.0 ∙ one.0, rest.1)
  failed-stays chain (piece ∷ pieces) (Err (Root why) ∷ answers) after held' (middle, between, one, _, later) = absurd (no-stop chain why middle one.0)
  failed-stays chain (piece ∷ pieces) (Err Memory ∷ answers) after held' (middle, between, one, some, later) = absurd (some refl)

  -- what the pieces tell together is taken, up to the first root that is refused
  abbrev Comes : KeyedRoots → List SignedRoot × FeedState → Result Unit PieceRefusal → KeyedRoots → FeedState → Type 0
  Comes chain t (Ok _) after held' = Takes hash verified chain t.0 after × (held' ≡ t.1) × (held' ≢ Failed)
  Comes chain t (Err Malformed) after held' = Takes hash verified chain t.0 after × (t.1 ≡ Failed) × (held' ≡ Failed)
  Comes chain t (Err (Root why)) after held' = StopsAt hash verified chain t.0 why after × (why ≢ list.Memory) × (held' ≡ Failed)
  Comes chain t (Err Memory) after held' = ⊥

  comes-after : (answer : Result Unit PieceRefusal) (roots : List SignedRoot) (u : List SignedRoot × FeedState) (chain middle after : KeyedRoots) (held' : FeedState)
      → Takes hash verified chain roots middle → Comes middle u answer after held' → Comes chain (roots ++ u.0, u.1) answer after held'
  comes-after (Ok _) roots u chain middle after held' takes comes = (takes-append roots u.0 chain middle after takes comes.0, comes.1, comes.2)
  comes-after (Err Malformed) roots u chain middle after held' takes comes = (takes-append roots u.0 chain middle after takes comes.0, comes.1, comes.2)
  comes-after (Err (Root why)) roots u chain middle after held' takes comes = (stops-after roots u.0 chain middle why after takes comes.0, comes.1, comes.2)
  comes-after (Err Memory) roots u chain middle after held' takes comes = absurd comes

  pieces-come : (pieces : List (List ℕ)) (answers : List (Result Unit PieceRefusal)) (chain : KeyedRoots) (held : FeedState) (after : KeyedRoots) (held' : FeedState)
      → told_from held [] ≡ ([], held) → held ≢ Failed → TakesPieces hash verified chain held pieces answers after held'
      → Comes chain (told_from held (joined pieces)) (first_refusal answers) after held'
  pieces-come [] [] chain held after held' settled some calls =
      subst (λ (t : List SignedRoot × FeedState). Comes chain t (Ok tt) after held') (sym settled) (calls.0, calls.1, λ e. some (sym calls.1 ∙ e))
  pieces-come [] (answer ∷ answers) chain held after held' settled some calls = absurd calls
  pieces-come (piece ∷ pieces) [] chain held after held' settled some calls = absurd calls
  pieces-come (piece ∷ pieces) (Ok _ ∷ answers) chain held after held' settled some (middle, between, one, _, later) =
      let t = told_from held piece in
      let calls = subst (λ (h : FeedState). TakesPieces hash verified middle h pieces answers after held') one.1 later in
      subst (λ (t : List SignedRoot × FeedState). Comes chain t (first_refusal answers) after held') (sym (from-more held piece (joined pieces)))
      (comes-after (first_refusal answers) t.0 (told_from t.1 (joined pieces)) chain middle after held' one.0
      (pieces-come pieces answers middle t.1 after held' (from-nothing held piece) (λ e. one.2 (one.1 ∙ e)) calls))
  pieces-come (piece ∷ pieces) (Err Malformed ∷ answers) chain held after held' settled some (middle, between, one, _, later) =
      let t = told_from held piece in
      let rest = failed-stays middle pieces answers after held' (subst (λ (h : FeedState). TakesPieces hash verified middle h pieces answers after held') one.2 later) in
      let u = told_from t.1 (joined pieces) in
      let none : u ≡ ([], Failed) = ap (λ (h : FeedState). told_from h (joined pieces)) one.1 in
      subst (λ (t : List SignedRoot × FeedState). Comes chain t (Err Malformed) after held') (sym (from-more held piece (joined pieces))) (
        takes-append t.0 u.0 chain middle after one.0 (subst (λ (u : List SignedRoot × FeedState). Takes hash verified middle u.0 after) (sym none) rest.0),
        ap (λ (u : List SignedRoot × FeedState). u.1) none,
        rest.1,
      )
  pieces-come (piece ∷ pieces) (Err (Root why) ∷ answers) chain held after held' settled some (middle, between, one, _, later) =
      let t = told_from held piece in
      let rest = failed-stays middle pieces answers after held' (subst (λ (h : FeedState). TakesPieces hash verified middle h pieces answers after held') one.2 later) in
      subst (λ (t : List SignedRoot × FeedState). Comes chain t (Err (Root why)) after held') (sym (from-more held piece (joined pieces)))
      (stops-before t.0 _ chain why after (subst (λ (c : KeyedRoots). StopsAt hash verified chain t.0 why c) (sym rest.0) one.0), one.1, rest.1)
  pieces-come (piece ∷ pieces) (Err Memory ∷ answers) chain held after held' settled some (middle, between, one, room, later) = absurd (room refl)

  begun : Counts [] ≢ Failed
  begun e = cc

  one-piece : (chain : KeyedRoots) (piece : List ℕ) (answer : Result Unit PieceRefusal) (after : KeyedRoots) (held' : FeedState) → Comes chain (told_from (Counts []) piece) answer after held'
      → TakesPiece hash verified chain (Counts []) piece answer after held' × (answer ≢ Err Memory)
  one-piece chain piece (Ok _) after held' comes = (comes, λ e. cc)
  one-piece chain piece (Err Malformed) after held' comes = (comes, λ e. cc)
  one-piece chain piece (Err (Root why)) after held' comes = (comes, λ e. cc)
  one-piece chain piece (Err Memory) after held' comes = absurd comes

  pub to-one : PiecesComeToOne hash verified
  to-one chain pieces answers after held' calls = one-piece chain (joined pieces) (first_refusal answers) after held' (pieces-come pieces answers chain (Counts []) after held' from-start begun calls)

  up-to : (chain : KeyedRoots) (roots : List SignedRoot) (answer : Result Unit PieceRefusal) (after : KeyedRoots) (held' : FeedState) → Comes chain (roots, Done) answer after held'
      → TakesUpTo hash verified chain roots after held'
  up-to chain roots (Ok _) after held' comes = inl (comes.0, comes.1)
  up-to chain roots (Err Malformed) after held' comes = absurd (never comes.1)
    where
      never : Done ≡ Failed → ⊥
      never e = cc
  up-to chain roots (Err (Root why)) after held' comes = inr (why, comes.0, comes.1, comes.2)
  up-to chain roots (Err Memory) after held' comes = absurd comes

  pub cuts : CuttingDoesNotMatter hash verified
  cuts chain roots pieces answers after held' spelled calls =
      up-to chain roots (first_refusal answers) after held'
      (subst (λ (t : List SignedRoot × FeedState). Comes chain t (first_refusal answers) after held') (list-spelled (joined pieces) roots spelled)
      (pieces-come pieces answers chain (Counts []) after held' from-start begun calls))

  -- ---- what the bytes are

  done-comes : (chain : KeyedRoots) (t : List SignedRoot × FeedState) (answer : Result Unit PieceRefusal) (after : KeyedRoots) → Comes chain t answer after Done → Takes hash verified chain t.0 after × (t.1 ≡ Done)
  done-comes chain t (Ok _) after comes = (comes.0, sym comes.1)
  done-comes chain t (Err Malformed) after comes = absurd (never comes.2)
    where
      never : Done ≡ Failed → ⊥
      never e = cc
  done-comes chain t (Err (Root why)) after comes = absurd (never comes.2)
    where
      never : Done ≡ Failed → ⊥
      never e = cc
  done-comes chain t (Err Memory) after comes = absurd comes

  pub done-list : DoneIsAList hash verified
  done-list chain pieces answers after small calls =
      let t = told_from (Counts []) (joined pieces) in
      let is = done-comes chain t (first_refusal answers) after (pieces-come pieces answers chain (Counts []) after Done from-start begun calls) in
      (t.0, list-is (joined pieces) small is.1, is.0)

  pub malformed-none : MalformedBeginsNoList hash verified
  malformed-none chain pieces answers after held' calls malformed more roots spelled =
      let t = told_from (Counts []) (joined pieces) in
      let comes = subst (λ (answer : Result Unit PieceRefusal). Comes chain t answer after held') malformed (pieces-come pieces answers chain (Counts []) after held' from-start begun calls) in
      let done = ap (λ (z : List SignedRoot × FeedState). z.1) (list-spelled (joined pieces ++ more) roots spelled) in
      let later = ap (λ (z : List SignedRoot × FeedState). z.1) (from-more (Counts []) (joined pieces) more) in
      never (sym done ∙ later ∙ ap (λ (h : FeedState). (told_from h more).1) comes.1)
    where
      never : Done ≡ Failed → ⊥
      never e = cc

  some-taken : (chain : KeyedRoots) (roots : List SignedRoot) (last : FeedState) (answer : Result Unit PieceRefusal) (after : KeyedRoots) (held' : FeedState) → Comes chain (roots, last) answer after held'
      → Takes hash verified chain roots after ⊎ ((why : ListRefusal) × StopsAt hash verified chain roots why after × (why ≢ list.Memory) × (held' ≡ Failed))
  some-taken chain roots last (Ok _) after held' comes = inl comes.0
  some-taken chain roots last (Err Malformed) after held' comes = inl comes.0
  some-taken chain roots last (Err (Root why)) after held' comes = inr (why, comes.0, comes.1, comes.2)
  some-taken chain roots last (Err Memory) after held' comes = absurd comes

  pub whole-roots : TakesWholeRoots hash verified
  whole-roots chain count roots rest pieces answers after held' small has calls =
      let t = told_from (Counts []) (joined pieces) in
      let same : t ≡ (roots, t.1) = ap (λ (rs : List SignedRoot). (rs, t.1)) (whole-told count roots rest (joined pieces) small has) in
      some-taken chain roots t.1 (first_refusal answers) after held'
      (subst (λ (u : List SignedRoot × FeedState). Comes chain u (first_refusal answers) after held') same (pieces-come pieces answers chain (Counts []) after held' from-start begun calls))

  fails : (chain : KeyedRoots) (t : List SignedRoot × FeedState) (answer : Result Unit PieceRefusal) (after : KeyedRoots) (held' : FeedState) → Comes chain t answer after held' → t.1 ≡ Failed → held' ≡ Failed
  fails chain t (Ok _) after held' comes failed = comes.1 ∙ failed
  fails chain t (Err Malformed) after held' comes failed = comes.2
  fails chain t (Err (Root why)) after held' comes failed = comes.2
  fails chain t (Err Memory) after held' comes failed = absurd comes

  pub behind-a-list : FailsBehindAList hash verified
  behind-a-list chain bytes roots byte more pieces answers after held' spelled is calls =
      let t = told_from (Counts []) (joined pieces) in
      let failed : t.1 ≡ Failed = ap (λ (z : List ℕ). (told_from (Counts []) z).1) is ∙ behind-fails bytes roots byte more spelled in
      fails chain t (first_refusal answers) after held' (pieces-come pieces answers chain (Counts []) after held' from-start begun calls) failed

  none-taken : (chain : KeyedRoots) (answer : Result Unit PieceRefusal) (after : KeyedRoots) (held' : FeedState) → Comes chain ([], Failed) answer after held'
      → (answer ≡ Err Malformed) × (after ≡ chain) × (held' ≡ Failed)
  none-taken chain (Ok _) after held' comes = absurd (comes.2 comes.1)
  none-taken chain (Err Malformed) after held' comes = (refl, comes.0, comes.2)
  none-taken chain (Err (Root why)) after held' comes = absurd (no-stop chain why after comes.0)
  none-taken chain (Err Memory) after held' comes = absurd comes

  pub too-many : FailsAtTooMany hash verified
  too-many chain count more pieces answers after held' many small is calls =
      none-taken chain (first_refusal answers) after held'
      (subst (λ (t : List SignedRoot × FeedState). Comes chain t (first_refusal answers) after held') (too-many-fail count (joined pieces) more many small is)
      (pieces-come pieces answers chain (Counts []) after held' from-start begun calls))

  pub taken-few : TakesFewBytes hash verified
  taken-few chain pieces answers after held' small calls taken =
      let t = told_from (Counts []) (joined pieces) in
      let comes = subst (λ (answer : Result Unit PieceRefusal). Comes chain t answer after held') taken (pieces-come pieces answers chain (Counts []) after held' from-start begun calls) in
      omega (arith, list-few (joined pieces) small (λ failed. comes.2 (comes.1 ∙ failed)))

  -- ---- a chain stays one

  pub piece-chain : {A : Type 0} (chain : KeyedRoots) (held : FeedState) (piece : List ℕ) (answer : Result A PieceRefusal) (after : KeyedRoots) (held' : FeedState)
      → IsChain hash verified chain → TakesPiece hash verified chain held piece answer after held' → IsChain hash verified after
  piece-chain chain held piece (Ok _) after held' is takes = takes-chain hash verified (told_from held piece).0 chain after is takes.0
  piece-chain chain held piece (Err Malformed) after held' is takes = takes-chain hash verified (told_from held piece).0 chain after is takes.0
  piece-chain chain held piece (Err (Root why)) after held' is takes = takes-chain hash verified takes.0.0 chain after is takes.0.4
  piece-chain chain held piece (Err Memory) after held' is takes = subst (IsChain hash verified) (sym takes.2) is

  pub piece-grows : {A : Type 0} (chain : KeyedRoots) (held : FeedState) (piece : List ℕ) (answer : Result A PieceRefusal) (after : KeyedRoots) (held' : FeedState)
      → TakesPiece hash verified chain held piece answer after held' → (more : List SignedRoot) × (after ≡ with_roots chain more)
  piece-grows chain held piece (Ok _) after held' takes = takes-grows hash verified (told_from held piece).0 chain after takes.0
  piece-grows chain held piece (Err Malformed) after held' takes = takes-grows hash verified (told_from held piece).0 chain after takes.0
  piece-grows chain held piece (Err (Root why)) after held' takes = takes-grows hash verified takes.0.0 chain after takes.0.4
  piece-grows chain held piece (Err Memory) after held' takes = ([], takes.2 ∙ grows-nothing chain)

  -- a refusal holds
  pub piece-holds : {A : Type 0} (chain : KeyedRoots) (held : FeedState) (piece : List ℕ) (answer : Result A PieceRefusal) (after : KeyedRoots) (held' : FeedState)
      → IsChain hash verified chain → TakesPiece hash verified chain held piece answer after held' → IfErr answer (PieceRefusalHolds hash verified chain.key)
  piece-holds chain held piece (Ok _) after held' is takes = tt
  piece-holds chain held piece (Err Malformed) after held' is takes = tt
  piece-holds chain held piece (Err (Root why)) after held' is takes = stop-holds hash verified chain (told_from held piece).0 why after is takes.0
  piece-holds chain held piece (Err Memory) after held' is takes = tt

  -- ---- nothing comes after a list

  done-tells : (piece : List ℕ) → (told_from Done piece).0 ≡ []
  done-tells [] = refl
  done-tells (byte ∷ piece) = refl

  pub done-never-stops : (chain after : KeyedRoots) (held : FeedState) (piece : List ℕ) (why : ListRefusal) → held ≡ Done → StopsAt hash verified chain (told_from held piece).0 why after → ⊥
  done-never-stops chain after held piece why done stops =
      let none = ap length (ap (λ (h : FeedState). (told_from h piece).0) (sym done) ∙ stops.3) in
      omega (arith, ap length (done-tells piece), none, length-append stops.0 (stops.1 ∷ stops.2))
