-- One step of a monitor of a script: what it appends, and how all stand after it.
use Rattle.std.specs.Prelude.{◌≡◌, ℕ, Bool, true, false, List, [], ◌∷◌, ◌++◌, codes, decimal, slice_get, slice_set, Some, Ok, Err}
use Rattle.rand_core.specs.Stream.{Stream}
use Rattle.proofs.specs.Refusals.{reply_refusal_number}
use Rattle.proofs.specs.declared.reply_refusal.Refusal.{Refusal}
use Rattle.book.specs.Books.{Page, pages}
use Rattle.book.specs.Shows.{index_of}
use Rattle.epochs.specs.DirectoryStates.{HasKeysOf}
use Rattle.client.specs.declared.client_refusal.Refusal.TheVariants.{Proof}
use Rattle.monitor.specs.Monitors.{Monitor}
use Rattle.monitor.specs.Stepping.{IsNextEpoch, Steps}
use Rattle.monitor.specs.declared.monitor_refusal.Refusal.TheVariants.{Client}
use Rattle.monitor.specs.declared.step.Step.{Step}
use Rattle.play.specs.Lines.{is_double, refused_proof}
use Rattle.play.specs.Parties.{Parties, provider_of, HaveDone}
use Rattle.play.specs.Played.{Stand}
use Rattle.play.specs.Telling.{step_text}
use Rattle.play.specs.Watchers.{Watcher, ahead, watched_text}

-- the monitor at this place goes on with this epoch
abbrev pub IsNextOf : List Monitor → ℕ → ℕ → Type 0
IsNextOf monitors place epoch = (watching : Monitor) × (slice_get monitors place ≡ Some watching) × IsNextEpoch watching (Some epoch)

-- A monitor watched an epoch by a reply, and its step is told; or its client refused the proof, and that is told.
abbrev pub Watches : (List ℕ → List ℕ) → (List ℕ → List ℕ → List ℕ → Type 0) → Monitor → ℕ → List ℕ → List ℕ → Bool → List ℕ → Monitor → Type 0
Watches hash accepted before epoch reply printed true text after =
    (told : Step) × Steps hash accepted before reply (Ok told) after × (text ≡ printed ++ step_text before.name epoch told ++ 10 ∷ [])
Watches hash accepted before epoch reply printed false text after =
    (why : Refusal) × Steps hash accepted before reply (Err (Client (Proof why))) after × (text ≡ printed ++ codes "client refuses proof " ++ decimal (reply_refusal_number why) ++ 10 ∷ [])

-- the line of a page, and the watcher after it
abbrev pub IsStep : (List ℕ → List ℕ) → Watcher → Page → Bool → List ℕ → Watcher → Type 0
IsStep index watcher page true line after = (is_double index page watcher.name ≡ false) × (line ≡ watched_text watcher page) × (after ≡ record watcher { behind = page.epoch })
IsStep index watcher page false line after = (is_double index page watcher.name ≡ true) × (line ≡ refused_proof) × (after ≡ watcher)

module _ {R : Type 0} (digest_of : List ℕ → List ℕ) (value_of signature_of : List ℕ → List ℕ → List ℕ) (stream : R → Stream) (accepted verified : List ℕ → List ℕ → List ℕ → Type 0) where
  -- The first page ahead of a watcher was watched, or its proof refused.
  pub record HasStepped (before : Parties R) (stand : Stand) (place : ℕ) (watcher : Watcher) (printed : List ℕ) (went : Bool) (text : List ℕ) (parties : Parties R) : Type 0 where
    pub page : Page
    pub more : List Page
    pub first : ahead watcher (pages stand.book) ≡ page ∷ more
    pub line : List ℕ
    pub now : Watcher
    pub is : IsStep (index_of (provider_of digest_of value_of signature_of stream accepted verified before)) watcher page went line now
    pub rest : ahead (record watcher { behind = page.epoch }) (pages stand.book) ≡ more
    pub keys : HasKeysOf before.hub.service.directory parties.hub.service.directory
    pub looks : parties.client.looks ≡ before.client.looks
    pub done : HaveDone digest_of value_of signature_of stream accepted verified printed (line ∷ []) (record stand { watchers = slice_set stand.watchers place now }) text parties
