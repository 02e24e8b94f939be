-- The monitors watch, one after another.
use Rattle.std.proofs.Common.{◌≡◌, ℕ, ◌+◌, ◌<◌, ◌≤◌, List, [], ◌∷◌, ◌++◌, length, length-append, slice_get, slice_set, Some, refl, sym, ap, subst, ◌∙◌, arith, append_assoc, append-nil}
use Rattle.std.proofs.lemmas.Grind.{flat_map-append}
use Rattle.std.proofs.lemmas.Slice.Zip.{AllZip-long}
use Rattle.rand_core.specs.Stream.{Stream}
use Rattle.book.specs.Books.{pages}
use Rattle.book.specs.Shows.{roots}
use Rattle.play.specs.Lines.{as_lines}
use Rattle.play.specs.Parties.{provider_of, AreAt, HaveDone, IsWatcher, Parties}
use Rattle.play.specs.Played.{Stand}
use Rattle.play.specs.Watchers.{Watcher, ahead, all_through, through}

module _ {X : Type 0} where
  at-seam : (xs : List X) (y : X) (ys : List X) → slice_get (xs ++ y ∷ ys) (length xs) ≡ Some y
  at-seam [] y ys = refl
  at-seam (x ∷ xs) y ys = at-seam xs y ys

  set-seam : (xs : List X) (y : X) (ys : List X) (z : X) → slice_set (xs ++ y ∷ ys) (length xs) z ≡ xs ++ z ∷ ys
  set-seam [] y ys z = refl
  set-seam (x ∷ xs) y ys z = ap (λ (rest : List X). x ∷ rest) (set-seam xs y ys z)

module _ {R : Type 0} (digest_of : List ℕ → List ℕ) (value_of signature_of : List ℕ → List ℕ → List ℕ) (stream : R → Stream) (accepted verified : List ℕ → List ℕ → List ℕ → Type 0)
    (index_of : List ℕ → List ℕ) (before : List ℕ) (stand : Stand) where
  abbrev Done : List (List ℕ) → List Watcher → List ℕ → Parties R → Type 0
  Done lines watchers printed parties = HaveDone digest_of value_of signature_of stream accepted verified before lines (record stand { watchers = watchers }) printed parties

  -- the first watchers, so many of all, have watched
  pub record HaveWatched (end place : ℕ) (printed : List ℕ) (parties : Parties R) : Type 0 where
    pub front : List Watcher
    pub back : List Watcher
    pub lines : List (List ℕ)
    pub count : length front ≡ place
    pub long : length front + length back ≡ end
    pub done : Done lines (front ++ back) printed parties
    pub said : lines ++ (all_through index_of (pages stand.book) back).0 ≡ (all_through index_of (pages stand.book) stand.watchers).0
    pub watchers : front ++ (all_through index_of (pages stand.book) back).1 ≡ (all_through index_of (pages stand.book) stand.watchers).1

  as-many : (some : Stand) (parties : Parties R) → AreAt digest_of value_of signature_of stream accepted verified parties some → length some.watchers ≡ length parties.monitors
  as-many some parties at =
      AllZip-long (IsWatcher parties.key (roots (provider_of digest_of value_of signature_of stream accepted verified parties) some.book) some.book) parties.monitors some.watchers at.taken.monitors

  pub watched-begin : (end : ℕ) (parties : Parties R) → end ≡ length parties.monitors → AreAt digest_of value_of signature_of stream accepted verified parties stand → HaveWatched end 0 before parties
  watched-begin end parties same at = record {
    front = [];
    back = stand.watchers;
    lines = [];
    count = refl;
    long = omega (arith, same, as-many stand parties at);
    done = record { text = sym (append-nil before); stands = at };
    said = refl;
    watchers = refl;
  }

  -- the monitor of each place is there
  pub still-there : (end place : ℕ) (printed : List ℕ) (parties : Parties R) → HaveWatched end place printed parties → length parties.monitors ≡ end
  still-there end place printed parties h =
      omega (arith, as-many (record stand { watchers = h.front ++ h.back }) parties h.done.stands, length-append h.front h.back, h.long)

  -- how the parties stand now
  pub stands-now : (end place : ℕ) (printed : List ℕ) (parties : Parties R) → HaveWatched end place printed parties → (some : Stand) × AreAt digest_of value_of signature_of stream accepted verified parties some
  stands-now end place printed parties h = (record stand { watchers = h.front ++ h.back }, h.done.stands)

  -- what the next one says
  abbrev pub Next : (index : List ℕ → List ℕ) (place : ℕ) (text printed : List ℕ) (parties later : Parties R) → Type 0
  Next index place text printed parties later = (some : Stand) (watcher : Watcher) → AreAt digest_of value_of signature_of stream accepted verified parties some → slice_get some.watchers place ≡ Some watcher
      → HaveDone digest_of value_of signature_of stream accepted verified text (through index watcher (ahead watcher (pages some.book))).0
      (record some { watchers = slice_set some.watchers place (through index watcher (ahead watcher (pages some.book))).1 }) printed later

  pub watched-step : (index : List ℕ → List ℕ) (end place : ℕ) (text printed : List ℕ) (parties later : Parties R) → index ≡ index_of → place < end
      → Next index place text printed parties later → HaveWatched end place text parties → HaveWatched end (place + 1) printed later
  watched-step index end place text printed parties later same low next h = by h.back refl
    where
      by : (rest : List Watcher) → h.back ≡ rest → HaveWatched end (place + 1) printed later
      by [] none = let many = ap (λ (ws : List Watcher). length ws) none in absurd (omega (arith, low, h.long, h.count, many))
      by (watcher ∷ more) is = record {
        front = h.front ++ now.1 ∷ [];
        back = more;
        lines = h.lines ++ now.0;
        count = omega (arith, length-append h.front (now.1 ∷ []), h.count);
        long = let many = ap (λ (ws : List Watcher). length ws) is in omega (arith, length-append h.front (now.1 ∷ []), many, h.long);
        done = record {
          text = told.text ∙ ap (λ (t : List ℕ). t ++ as_lines now.0) h.done.text ∙ append_assoc before (as_lines h.lines) (as_lines now.0)
              ∙ ap (λ (t : List ℕ). before ++ t) (sym (flat_map-append (λ (line : List ℕ). line ++ 10 ∷ []) h.lines now.0));
          stands = subst (λ (ws : List Watcher). AreAt digest_of value_of signature_of stream accepted verified later (record stand { watchers = ws })) set told.stands;
        };
        said = append_assoc h.lines now.0 (all_through index_of (pages stand.book) more).0
            ∙ ap (λ (ws : List Watcher). h.lines ++ (all_through index_of (pages stand.book) ws).0) (sym is) ∙ h.said;
        watchers = append_assoc h.front (now.1 ∷ []) (all_through index_of (pages stand.book) more).1
            ∙ ap (λ (ws : List Watcher). h.front ++ (all_through index_of (pages stand.book) ws).1) (sym is) ∙ h.watchers;
      }
        where
          now : List (List ℕ) × Watcher
          now = through index_of watcher (ahead watcher (pages stand.book))

          all : Stand
          all = record stand { watchers = h.front ++ watcher ∷ more }

          at : AreAt digest_of value_of signature_of stream accepted verified parties all
          at = subst (λ (ws : List Watcher). AreAt digest_of value_of signature_of stream accepted verified parties (record stand { watchers = h.front ++ ws })) is h.done.stands

          own : slice_get (h.front ++ watcher ∷ more) place ≡ Some watcher
          own = subst (λ (k : ℕ). slice_get (h.front ++ watcher ∷ more) k ≡ Some watcher) h.count (at-seam h.front watcher more)

          told : HaveDone digest_of value_of signature_of stream accepted verified text now.0 (record stand { watchers = slice_set (h.front ++ watcher ∷ more) place now.1 }) printed later
          told = subst (λ (f : List ℕ → List ℕ). HaveDone digest_of value_of signature_of stream accepted verified text (through f watcher (ahead watcher (pages stand.book))).0
              (record stand { watchers = slice_set (h.front ++ watcher ∷ more) place (through f watcher (ahead watcher (pages stand.book))).1 }) printed later) same (next all watcher at own)

          set : slice_set (h.front ++ watcher ∷ more) place now.1 ≡ (h.front ++ now.1 ∷ []) ++ more
          set = subst (λ (k : ℕ). slice_set (h.front ++ watcher ∷ more) k now.1 ≡ h.front ++ now.1 ∷ more) h.count (set-seam h.front watcher more now.1) ∙ sym (append_assoc h.front (now.1 ∷ []) more)

  pub watched-end : (end place : ℕ) (printed : List ℕ) (parties : Parties R) → end ≤ place → HaveWatched end place printed parties
      → Done (all_through index_of (pages stand.book) stand.watchers).0 (all_through index_of (pages stand.book) stand.watchers).1 printed parties
  watched-end end place printed parties high h = by h.back refl
    where
      by : (rest : List Watcher) → h.back ≡ rest → Done (all_through index_of (pages stand.book) stand.watchers).0 (all_through index_of (pages stand.book) stand.watchers).1 printed parties
      by (watcher ∷ more) is = let many = ap (λ (ws : List Watcher). length ws) is in absurd (omega (arith, high, h.long, h.count, many))
      by [] none =
          let said : h.lines ≡ (all_through index_of (pages stand.book) stand.watchers).0 =
          sym (append-nil h.lines) ∙ ap (λ (ws : List Watcher). h.lines ++ (all_through index_of (pages stand.book) ws).0) (sym none) ∙ h.said in
          let watchers : h.front ++ h.back ≡ (all_through index_of (pages stand.book) stand.watchers).1 =
          ap (λ (ws : List Watcher). h.front ++ ws) none ∙ ap (λ (ws : List Watcher). h.front ++ (all_through index_of (pages stand.book) ws).1) (sym none) ∙ h.watchers in
          subst (λ (lines : List (List ℕ)). Done lines (all_through index_of (pages stand.book) stand.watchers).1 printed parties) said
          (subst (λ (ws : List Watcher). Done h.lines ws printed parties) watchers h.done)
