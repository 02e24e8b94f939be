-- A monitor goes through the pages that are ahead of it, as its watcher does.
use Rattle.std.proofs.Common.{◌≡◌, ◌⊎◌, ℕ, zero, suc, ◌<◌, ◌≤◌, nat_lt, List, [], ◌∷◌, ◌++◌, length, None, Some, Bool, true, false, if◌then◌else◌, Contains, refl, sym, ap, ap₂, subst, inl, inr, ◌∙◌, append_assoc, slice_set, arith}
use Rattle.std.specs.Prelude.{slice_get}
use Rattle.std.specs.List.{AllZip}
use Rattle.std.proofs.lemmas.Bool.{ltb-false, ltb-true}
use Rattle.std.proofs.lemmas.List.{append-nil}
use Rattle.std.proofs.lemmas.List.Elements.{Contains-get_or}
use Rattle.rand_core.specs.Stream.{Stream}
use Rattle.rootchain.specs.Chains.{KeyedRoots}
use Rattle.rootchain.specs.declared.signed_root.SignedRoot.{SignedRoot}
use Rattle.book.specs.Books.{Book, Page, pages}
use Rattle.book.specs.Shows.{Provider, index_of, keyed_provider, roots}
use Rattle.book.proofs.Members.{first-or-later, first-there, later-there, none-there}
use Rattle.epochs.specs.DirectoryStates.{HasKeysOf}
use Rattle.monitor.specs.Monitors.{Monitor, IsNext}
use Rattle.monitor.specs.Stepping.{IsNextEpoch}
use Rattle.play.specs.Lines.{as_lines, is_double, refused_proof}
use Rattle.play.specs.Parties.{Parties, provider_of, AreAt, HaveDone, IsWatcher}
use Rattle.play.specs.Played.{Stand}
use Rattle.play.specs.Steps.{HasStepped}
use Rattle.play.specs.Watchers.{Watcher, ahead, onto_line, through, watched_text}
use Rattle.play.proofs.Ahead.{none-ahead}
use Rattle.play.proofs.Calling.{in-roots, rooted-epoch}
use Rattle.play.proofs.Stepped.{root-of, zip-got}

-- ---- lists

module _ {X : Type 0} where
  pub set-same : (xs : List X) (k : ℕ) (x : X) → slice_get xs k ≡ Some x → slice_set xs k x ≡ xs
  set-same [] k x is = absurd cc
  set-same (y ∷ xs) zero x is = let e : x ≡ y = cc in ap (λ (z : X). z ∷ xs) e
  set-same (y ∷ xs) (suc k) x is = ap (λ (more : List X). y ∷ more) (set-same xs k x is)

  pub set-twice : (xs : List X) (k : ℕ) (x y : X) → slice_set (slice_set xs k x) k y ≡ slice_set xs k y
  set-twice [] k x y = refl
  set-twice (z ∷ xs) zero x y = refl
  set-twice (z ∷ xs) (suc k) x y = ap (λ (more : List X). z ∷ more) (set-twice xs k x y)

  pub get-set : (xs : List X) (k : ℕ) (x y : X) → slice_get xs k ≡ Some x → slice_get (slice_set xs k y) k ≡ Some y
  get-set [] k x y is = absurd cc
  get-set (z ∷ xs) zero x y is = refl
  get-set (z ∷ xs) (suc k) x y is = get-set xs k x y is

module _ {X Y : Type 0} (R : X → Y → Type 0) where
  pub zip-there : (xs : List X) (ys : List Y) (k : ℕ) → AllZip R xs ys → k < length xs → (y : Y) × (slice_get ys k ≡ Some y)
  zip-there [] ys k all within = absurd (omega (arith, within))
  zip-there (x ∷ xs) [] k all within = absurd all
  zip-there (x ∷ xs) (y ∷ ys) zero all within = (y, refl)
  zip-there (x ∷ xs) (y ∷ ys) (suc k) all within = zip-there xs ys k all.1 (omega (arith, within))

  pub zip-within : (xs : List X) (ys : List Y) (k : ℕ) (y : Y) → AllZip R xs ys → slice_get ys k ≡ Some y → k < length xs
  zip-within [] [] k y all is = absurd cc
  zip-within [] (z ∷ ys) k y all is = absurd all
  zip-within (x ∷ xs) [] k y all is = absurd all
  zip-within (x ∷ xs) (z ∷ ys) zero y all is = omega arith
  zip-within (x ∷ xs) (z ∷ ys) (suc k) y all is = let more = zip-within xs ys k y all.1 is in omega (arith, more)

pub more-lines : (lines others : List (List ℕ)) → as_lines (lines ++ others) ≡ as_lines lines ++ as_lines others
more-lines [] others = refl
more-lines (line ∷ lines) others = ap (λ (rest : List ℕ). (line ++ 10 ∷ []) ++ rest) (more-lines lines others) ∙ sym (append_assoc (line ++ 10 ∷ []) (as_lines lines) (as_lines others))

-- ---- the next root

-- the root with the least epoch above this one, if there is any
record IsLeast (epoch : ℕ) (some : List SignedRoot) (root : SignedRoot) : Type 0 where
  pub there : Contains some root
  pub above : epoch < root.body.epoch
  pub least : (other : SignedRoot) → Contains some other → epoch < other.body.epoch → root.body.epoch ≤ other.body.epoch

abbrev NoneAbove : ℕ → List SignedRoot → Type 0
NoneAbove epoch some = (root : SignedRoot) → Contains some root → epoch < root.body.epoch → ⊥

least-or-none : (epoch : ℕ) (some : List SignedRoot) → NoneAbove epoch some ⊎ ((root : SignedRoot) × IsLeast epoch some root)
least-or-none epoch [] = inl (λ root there above. none-there root there)
least-or-none epoch (first ∷ more) = by (nat_lt epoch first.body.epoch) refl (least-or-none epoch more)
  where
    alone : epoch < first.body.epoch → NoneAbove epoch more → (root : SignedRoot) × IsLeast epoch (first ∷ more) root
    alone above none = (
      first,
      record {
        there = first-there first more;
        above = above;
        least = λ other there over. elim (first-or-later first more other there) [
          | inl same ↦ let e : first.body.epoch ≡ other.body.epoch = ap (λ (r : SignedRoot). r.body.epoch) same in omega (arith, e)
          | inr later ↦ absurd (none other later over)
        ];
      },
    )

    lower : epoch < first.body.epoch → (root : SignedRoot) → IsLeast epoch more root → first.body.epoch ≤ root.body.epoch → (own : SignedRoot) × IsLeast epoch (first ∷ more) own
    lower above root is low = (
      first,
      record {
        there = first-there first more;
        above = above;
        least = λ other there over. elim (first-or-later first more other there) [
          | inl same ↦ let e : first.body.epoch ≡ other.body.epoch = ap (λ (r : SignedRoot). r.body.epoch) same in omega (arith, e)
          | inr later ↦ let l = is.least other later over in omega (arith, l, low)
        ];
      },
    )

    stays : (root : SignedRoot) → IsLeast epoch more root → (epoch < first.body.epoch → root.body.epoch ≤ first.body.epoch) → (own : SignedRoot) × IsLeast epoch (first ∷ more) own
    stays root is low = (
      root,
      record {
        there = later-there first more root is.there;
        above = is.above;
        least = λ other there over. elim (first-or-later first more other there) [
          | inl same ↦
              let e : first.body.epoch ≡ other.body.epoch = ap (λ (r : SignedRoot). r.body.epoch) same in
              let l = low (omega (arith, e, over)) in
              omega (arith, e, l)
          | inr later ↦ is.least other later over
        ];
      },
    )

    skipped : first.body.epoch ≤ epoch → NoneAbove epoch more → NoneAbove epoch (first ∷ more)
    skipped low none root there over = elim (first-or-later first more root there) [
      | inl same ↦ let e : first.body.epoch ≡ root.body.epoch = ap (λ (r : SignedRoot). r.body.epoch) same in omega (arith, e, low, over)
      | inr later ↦ none root later over
    ]

    by : (t : Bool) → nat_lt epoch first.body.epoch ≡ t → NoneAbove epoch more ⊎ ((root : SignedRoot) × IsLeast epoch more root) → NoneAbove epoch (first ∷ more) ⊎ ((root : SignedRoot) × IsLeast epoch (first ∷ more) root)
    by true is (inl none) = inr (alone (ltb-true epoch first.body.epoch is) none)
    by true is (inr (root, least)) = by_order (nat_lt root.body.epoch first.body.epoch) refl
      where
        by_order : (t : Bool) → nat_lt root.body.epoch first.body.epoch ≡ t → NoneAbove epoch (first ∷ more) ⊎ ((own : SignedRoot) × IsLeast epoch (first ∷ more) own)
        by_order true less = inr (stays root least (λ above. let l = ltb-true root.body.epoch first.body.epoch less in omega (arith, l)))
        by_order false less = inr (lower (ltb-true epoch first.body.epoch is) root least (ltb-false root.body.epoch first.body.epoch less))
    by false is (inl none) = inl (skipped (ltb-false epoch first.body.epoch is) none)
    by false is (inr (root, least)) = inr (stays root least (λ above. let l = ltb-false epoch first.body.epoch is in absurd (omega (arith, above, l))))

-- where no root is next, none is above
none-above : (monitor : Monitor) → ((root : SignedRoot) → ¬ IsNext monitor root) → NoneAbove monitor.watched monitor.client.chain.roots
none-above monitor none = elim (least-or-none monitor.watched monitor.client.chain.roots) [
  | inl is ↦ is
  | inr (root, least) ↦ absurd (none root (least.there, least.above, λ k d within over. least.least _ (Contains-get_or monitor.client.chain.roots k d within) over))
]

-- no page is ahead of a watcher whose monitor watched all
module _ (provider : Provider) (key : List ℕ) (book : Book) (watching : Monitor) (watcher : Watcher) (is : IsWatcher key (roots provider book) book watching watcher) where
  nothing-ahead : ((root : SignedRoot) → ¬ IsNext watching root) → ahead watcher (pages book) ≡ []
  nothing-ahead none = none-ahead watcher.behind (pages book) never
    where
      never : (page : Page) → Contains (pages book) page → watcher.behind < page.epoch → ⊥
      never page there after =
          let next = is.until.0 in
          let own = root-of provider book page there next in
          let e : (own.0).body.epoch ≡ page.epoch = rooted-epoch provider book page own.0 own.1 in
          let b = (is.behind own.0 (in-roots provider book page own.0 own.1)).0 (omega (arith, e, after)) in
          none-above watching none own.0 (subst (λ (some : List SignedRoot). Contains some own.0) (sym (ap (λ (c : KeyedRoots). c.roots) is.chain)) b.0) b.1

-- ---- step by step

-- these lines, and then those
abbrev pub joined : List (List ℕ) → List (List ℕ) × Watcher → List (List ℕ) × Watcher
joined lines rest = (lines ++ rest.0, rest.1)

-- what comes of a page, by whether it is double
abbrev by_double : (List ℕ → List ℕ) → Watcher → Page → List Page → Bool → List (List ℕ) × Watcher
by_double index watcher page more t = if t then (refused_proof ∷ [], watcher) else onto_line (watched_text watcher page) (through index (record watcher { behind = page.epoch }) more)

module _ {R : Type 0} (digest_of : List ℕ → List ℕ) (value_of signature_of : List ℕ → List ℕ → List ℕ) (stream : R → Stream) (accepted verified : List ℕ → List ℕ → List ℕ → Type 0) where
  abbrev pub index_at : Parties R → List ℕ → List ℕ
  index_at parties = index_of (provider_of digest_of value_of signature_of stream accepted verified parties)

  abbrev pub with_watcher : Stand → ℕ → Watcher → Stand
  with_watcher stand place now = record stand { watchers = slice_set stand.watchers place now }

  -- these lines are appended, and what is left of the watcher's lines is that of the watcher now
  pub record HasGone (before : Parties R) (printed : List ℕ) (stand : Stand) (place : ℕ) (watcher : Watcher) (text : List ℕ) (parties : Parties R) : Type 0 where
    pub keys : HasKeysOf before.hub.service.directory parties.hub.service.directory
    pub looks : parties.client.looks ≡ before.client.looks
    pub now : Watcher
    pub lines : List (List ℕ)
    pub done : HaveDone digest_of value_of signature_of stream accepted verified printed lines (with_watcher stand place now) text parties
    pub whole : through (index_at before) watcher (ahead watcher (pages stand.book)) ≡ joined lines (through (index_at before) now (ahead now (pages stand.book)))

  module _ (before : Parties R) (printed : List ℕ) (stand : Stand) (place : ℕ) (watcher : Watcher) (own : slice_get stand.watchers place ≡ Some watcher) where
    pub not-yet : AreAt digest_of value_of signature_of stream accepted verified before stand → HasGone before printed stand place watcher printed before
    not-yet all = record {
      keys = (refl, refl);
      looks = refl;
      now = watcher;
      lines = [];
      done = record {
        text = sym (append-nil printed);
        stands = subst (λ (watchers : List Watcher). AreAt digest_of value_of signature_of stream accepted verified before (record stand { watchers = watchers })) (sym (set-same stand.watchers place watcher own)) all;
      };
      whole = refl;
    }

    module _ (text : List ℕ) (parties : Parties R) (gone : HasGone before printed stand place watcher text parties) where
      pub now-there : slice_get (slice_set stand.watchers place gone.now) place ≡ Some gone.now
      now-there = get-set stand.watchers place watcher gone.now own

      pub place-within : place < length parties.monitors
      place-within =
          zip-within (IsWatcher parties.key (roots (provider_of digest_of value_of signature_of stream accepted verified parties) stand.book) stand.book) parties.monitors (slice_set stand.watchers place gone.now) place gone.now
          gone.done.stands.taken.monitors now-there

      index_same : index_at parties ≡ index_at before
      index_same = ap₂ (λ (vuf_key key : List ℕ). index_of (keyed_provider digest_of value_of vuf_key signature_of key)) gone.keys.0 gone.keys.1

      abbrev pub HasNext : Bool → List ℕ → Parties R → Type 0
      HasNext went later after = HasStepped digest_of value_of signature_of stream accepted verified parties (with_watcher stand place gone.now) place gone.now text went later after

      grown : (line later : List ℕ) (now : Watcher) (after : Parties R) → HaveDone digest_of value_of signature_of stream accepted verified text (line ∷ []) (with_watcher (with_watcher stand place gone.now) place now) later after
          → HaveDone digest_of value_of signature_of stream accepted verified printed (gone.lines ++ line ∷ []) (with_watcher stand place now) later after
      grown line later now after done = record {
        text = done.text ∙ ap (λ (front : List ℕ). front ++ as_lines (line ∷ [])) gone.done.text ∙ append_assoc printed (as_lines gone.lines) (as_lines (line ∷ []))
            ∙ ap (λ (rest : List ℕ). printed ++ rest) (sym (more-lines gone.lines (line ∷ [])));
        stands = subst (λ (watchers : List Watcher). AreAt digest_of value_of signature_of stream accepted verified after (record stand { watchers = watchers })) (set-twice stand.watchers place gone.now now) done.stands;
      }

      keys-on : (after : Parties R) → HasKeysOf parties.hub.service.directory after.hub.service.directory → HasKeysOf before.hub.service.directory after.hub.service.directory
      keys-on after keys = (keys.0 ∙ gone.keys.0, keys.1 ∙ gone.keys.1)

      -- by a page that was watched
      pub goes-farther : (later : List ℕ) (after : Parties R) → HasNext true later after → HasGone before printed stand place watcher later after
      goes-farther later after step = record {
        keys = keys-on after step.keys;
        looks = step.looks ∙ gone.looks;
        now = step.now;
        lines = gone.lines ++ step.line ∷ [];
        done = grown step.line later step.now after step.done;
        whole =
            gone.whole
            ∙ ap (joined gone.lines) (ap (through (index_at before) gone.now) step.first ∙ ap (λ (t : Bool). by_double (index_at before) gone.now step.page step.more t) single ∙ ap₂ onto_line (sym step.is.1) left)
            ∙ ap (λ (all : List (List ℕ)). (all, (through (index_at before) step.now (ahead step.now (pages stand.book))).1))
            (sym (append_assoc gone.lines (step.line ∷ []) (through (index_at before) step.now (ahead step.now (pages stand.book))).0));
      }
        where
          single : is_double (index_at before) step.page gone.now.name ≡ false
          single = subst (λ (index : List ℕ → List ℕ). is_double index step.page gone.now.name ≡ false) index_same step.is.0

          left : through (index_at before) (record gone.now { behind = step.page.epoch }) step.more ≡ through (index_at before) step.now (ahead step.now (pages stand.book))
          left =
              ap (through (index_at before) (record gone.now { behind = step.page.epoch })) (sym step.rest)
              ∙ ap (λ (now : Watcher). through (index_at before) now (ahead now (pages stand.book))) (sym step.is.2)

      abbrev pub HasEnded : List ℕ → Parties R → Type 0
      HasEnded later after =
          let all = through (index_at before) watcher (ahead watcher (pages stand.book)) in
          HaveDone digest_of value_of signature_of stream accepted verified printed all.0 (with_watcher stand place all.1) later after

      ended : (lines : List (List ℕ)) (now : Watcher) (later : List ℕ) (after : Parties R) → through (index_at before) watcher (ahead watcher (pages stand.book)) ≡ (lines, now)
          → HaveDone digest_of value_of signature_of stream accepted verified printed lines (with_watcher stand place now) later after → HasEnded later after
      ended lines now later after is done =
          subst (λ (all : List (List ℕ) × Watcher). HaveDone digest_of value_of signature_of stream accepted verified printed all.0 (with_watcher stand place all.1) later after) (sym is) done

      -- by one whose proof was refused, at which it ends
      pub ends-there : (later : List ℕ) (after : Parties R) → HasNext false later after → HasEnded later after
      ends-there later after step = ended (gone.lines ++ step.line ∷ []) step.now later after
          (
          gone.whole
          ∙ ap (joined gone.lines) (ap (through (index_at before) gone.now) step.first ∙ ap (λ (t : Bool). by_double (index_at before) gone.now step.page step.more t) double)
          ∙ ap₂ (λ (line : List ℕ) (now : Watcher). (gone.lines ++ line ∷ [], now)) (sym step.is.1) (sym step.is.2)
          )
          (grown step.line later step.now after step.done)
        where
          double : is_double (index_at before) step.page gone.now.name ≡ true
          double = subst (λ (index : List ℕ → List ℕ). is_double index step.page gone.now.name ≡ true) index_same step.is.0

      -- where no root is next, all were watched
      pub ends-here : (watching : Monitor) → slice_get parties.monitors place ≡ Some watching → IsNextEpoch watching None → HasEnded text parties
      ends-here watching placed none =
          ended gone.lines gone.now text parties
          (
          gone.whole ∙ ap (λ (some : List Page). joined gone.lines (through (index_at before) gone.now some)) nothing
          ∙ ap (λ (all : List (List ℕ)). (all, gone.now)) (append-nil gone.lines)
          )
          gone.done
        where
          nothing : ahead gone.now (pages stand.book) ≡ []
          nothing =
              let by = provider_of digest_of value_of signature_of stream accepted verified parties in
              nothing-ahead by parties.key stand.book watching gone.now
              (zip-got (IsWatcher parties.key (roots by stand.book) stand.book) parties.monitors (slice_set stand.watchers place gone.now) place watching gone.now gone.done.stands.taken.monitors placed now-there) none
