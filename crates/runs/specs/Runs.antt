-- What a run writes: all that is told of each line that it asks, one after another.
use Rattle.std.specs.Prelude.{◌≡◌, ◌⊎◌, ℕ, zero, suc, ◌<◌, Bool, true, false, List, [], ◌∷◌, ◌++◌, Contains, Option, Some, None, IfSome, option_map}
use Rattle.std.specs.List.{AllByRecursion}
use Rattle.std.specs.Io.KnownBytes.{Appends}
use Rattle.rootchain.specs.Chains.{IsChain}
use Rattle.rootchain.specs.declared.signed_promise.SignedPromise.{SignedPromise}
use Rattle.client.specs.Clients.{Client, IsSoundClient}
use Rattle.memory.specs.Memories.{nothing, Memory}
use Rattle.textio.specs.Lines.{lines_of}
use Rattle.wire.specs.Frames.{Frame}
use Rattle.wire.specs.Requests.{RequestContent}
use Rattle.play.specs.Scripts.{ScriptLine, Pass, Ask, Watch, Piece, End, line_of}
use Rattle.runs.specs.AskOptions.{AskOptions}
use Rattle.asking.specs.Asking.{AsksDirectory, FindsHead}
use Rattle.asking.specs.Catching.{Advances}
use Rattle.asking.specs.FinalBindings.{IsKnownIn}
use Rattle.asking.specs.Joining.{own_for, BeginsWatch}
use Rattle.asking.specs.Recalled.{evidence_again}
use Rattle.asking.specs.Reports.{Report}
use Rattle.asking.specs.Scenes.{Scene, StartsAtHead}
use Rattle.asking.specs.Visiting.{TestsAll}
use Rattle.asking.specs.declared.asker.Asker.{Asker}
use Rattle.asking.specs.declared.following.TheConstants.{MAX_LISTS}
use Rattle.memory.specs.declared.mark.Mark.{Mark}

-- the background of a run, which stays throughout it: the provider's key, the token, what is remembered of earlier
-- runs, and of that the marks and the promised changes
pub record Background : Type 0 where
  pub key : List ℕ
  pub token : List ℕ
  pub marks : List Mark
  pub earlier : List SignedPromise
  pub known : Memory

abbrev pub background_of : {H V S : Type 0} → Asker H V S → Background
background_of asker = record { key = asker.key; token = asker.token; marks = asker.marks.items; earlier = asker.earlier.items; known = asker.known }

-- the same keys and token, and the same monitors
abbrev pub IsSameAsker : {H V S : Type 0} → Asker H V S → Asker H V S → Type 0
IsSameAsker before after = (after.key ≡ before.key) × (after.token ≡ before.token) × (after.monitors ≡ before.monitors) × (after.client.chain.key ≡ before.client.chain.key)

-- the client keeps each of these promises
abbrev pub KeepsAll : Client → List SignedPromise → Type 0
KeepsAll client promises = AllByRecursion (Contains client.promises) promises

-- where it kept each of those of earlier runs, it still does
abbrev pub StillKeeps : {H V S : Type 0} → Asker H V S → Asker H V S → Type 0
StillKeeps before after = KeepsAll before.client before.earlier.items → KeepsAll after.client after.earlier.items

-- the background where there is no earlier run
abbrev pub new_background : List ℕ → List ℕ → Background
new_background key token = record { key = key; token = token; marks = []; earlier = []; known = nothing }

-- what was written stays, and some text is written behind it
abbrev pub Grows : Option (List ℕ) → Option (List ℕ) → Type 0
Grows old new = (text : List ℕ) × Appends old new text

-- no line, and this status
abbrev pub emptied : ℕ → Report
emptied status = record { lines = []; status = status }

-- the scene in which all that was told is written
abbrev pub written : {T : Type 0} → Scene T → Scene T
written before = record before { told = emptied before.told.status }

-- what a step leads to is told, and all of it is written
abbrev pub Writes : {T : Type 0} → (Scene T → Scene T → Type 0) → Scene T → Option (List ℕ) → Option (List ℕ) → Scene T → Type 0
Writes {T} Does before old new after = (done : Scene T) × Does before done × Appends old new done.told.lines × (after ≡ written done)

-- the words of an order in one line, with a space between two
abbrev pub with_word : List ℕ → Option (List ℕ) → List ℕ
with_word line None = line
with_word [] (Some word) = word
with_word (byte ∷ line) (Some word) = (byte ∷ line) ++ 32 ∷ word

abbrev pub words_from : List ℕ → List (Option (List ℕ)) → List ℕ
words_from line [] = line
words_from line (word ∷ more) = words_from (with_word line word) more

abbrev pub words_line : List (Option (List ℕ)) → List ℕ
words_line = words_from []

-- the lines that are asked: the words of the order if it has any, or else those of the input, where that is known
abbrev pub lines_asked : List (Option (List ℕ)) → Option (List ℕ) → Option (List (List ℕ))
lines_asked (Some command ∷ more) input = Some (words_line (Some command ∷ more) ∷ [])
lines_asked (None ∷ more) input = option_map lines_of input
lines_asked [] input = option_map lines_of input

-- a client of this provider whose chain, looks and promises are sound
abbrev pub IsSoundFor : (List ℕ → List ℕ) → (List ℕ → List ℕ → List ℕ → Type 0) → (List ℕ → List ℕ → List ℕ → Type 0) → List ℕ → Client → Type 0
IsSoundFor hash accepted verified key client = (client.chain.key ≡ key) × IsChain hash verified client.chain × IsSoundClient hash accepted verified client

module _ (hash : List ℕ → List ℕ) (accepted verified : List ℕ → List ℕ → List ℕ → Type 0) {T : Type 0} (exchanged : T → RequestContent → Frame → T → Type 0) where
  -- Whether one more list is needed on the way to an epoch. If it is, what was told by then is written.
  abbrev pub AdvancesOnce : ℕ → Scene T → Option (List ℕ) → Bool → Option (List ℕ) → Scene T → Type 0
  AdvancesOnce epoch before old true new after = Writes (λ from to. Advances hash accepted verified exchanged epoch from true to) before old new after
  AdvancesOnce epoch before old false new after = Advances hash accepted verified exchanged epoch before false after × (new ≡ old)

  -- so many lists are taken, and what is told of each is written before the next one is asked for
  abbrev pub AdvancesLists : ℕ → ℕ → Scene T → Option (List ℕ) → Option (List ℕ) → Scene T → Type 0
  AdvancesLists epoch zero before old new after = (new ≡ old) × (after ≡ before)
  AdvancesLists epoch (suc count) before old new after = (middle : Scene T) × (now : Option (List ℕ)) × AdvancesOnce epoch before old true now middle × AdvancesLists epoch count middle now new after

  -- no more are needed after some of them; there are at most 1,024 lists
  abbrev pub CatchesUpBy : ℕ → Scene T → Option (List ℕ) → Option (List ℕ) → Scene T → Type 0
  CatchesUpBy epoch before old new after = (count : ℕ) × (count < MAX_LISTS) × ((here : Scene T) × (now : Option (List ℕ)) × AdvancesLists epoch count before old now here × AdvancesOnce epoch here now false new after)

  module _ (background : Background) where
    -- Where there is a state, the roots up to the latest one are taken, which is placed in the chain, and each promise is
    -- tested that is due and does not wait. Without one the chain begins at the latest root.
    abbrev pub Prepares : Type 0 → Scene T → Scene T → Type 0
    Prepares HasNoState before after = (HasNoState × (after ≡ before))
        ⊎ ((¬ HasNoState) × ((middle : Scene T) × FindsHead hash accepted verified exchanged background.token before middle × TestsAll hash accepted exchanged background.marks middle after))

    -- what a line says is asked; one that says something to a session asks nothing of a directory
    abbrev pub DoesLine : ScriptLine → Scene T → Scene T → Type 0
    DoesLine Pass before after = after ≡ before
    DoesLine (Ask asked) before after = (noted : List SignedPromise) × (noted' : List SignedPromise) × AsksDirectory hash accepted verified exchanged background.marks background.token asked noted noted' before after
    DoesLine (Watch name given) before after = (noted : List SignedPromise)
        × BeginsWatch hash accepted verified exchanged background.known background.marks background.key (own_for background.marks name background.earlier noted) name given before after
    DoesLine (Piece session piece) before after = ⊥
    DoesLine (End session) before after = ⊥

    -- the same, where the first promises are noted before it, and the second behind it
    abbrev pub DoesLineNoting : ScriptLine → List SignedPromise → List SignedPromise → Scene T → Scene T → Type 0
    DoesLineNoting Pass noted noted' before after = (after ≡ before) × (noted' ≡ noted)
    DoesLineNoting (Ask asked) noted noted' before after = AsksDirectory hash accepted verified exchanged background.marks background.token asked noted noted' before after
    DoesLineNoting (Watch name given) noted noted' before after =
        BeginsWatch hash accepted verified exchanged background.known background.marks background.key (own_for background.marks name background.earlier noted) name given before after × (noted' ≡ noted)
    DoesLineNoting (Piece session piece) noted noted' before after = ⊥
    DoesLineNoting (End session) noted noted' before after = ⊥

    abbrev pub AsksLine : List ℕ → Scene T → Scene T → Type 0
    AsksLine line before after = (said : ScriptLine) × (line_of line ≡ Some said) × DoesLine said before after

    -- each of these lines is asked, and what is told of it is written before the next
    abbrev pub AsksLines : List (List ℕ) → Scene T → Option (List ℕ) → Option (List ℕ) → Scene T → Type 0
    AsksLines [] before old new after = Appends old new [] × (after ≡ before)
    AsksLines (line ∷ more) before old new after = (middle : Scene T) × (now : Option (List ℕ)) × Writes (AsksLine line) before old now middle × AsksLines more middle now new after

  -- A client starts with the directory's head, and knows nothing of earlier runs; or, where there is a state, it is a
  -- sound one of this provider, which keeps what earlier runs were promised for their changes.
  abbrev pub BeginsAsking : List ℕ → List ℕ → Type 0 → T → Background → Client → T → Type 0
  BeginsAsking key token HasNoState stream background client after =
      (StartsAtHead verified exchanged key stream client after × (background ≡ new_background key token))
      ⊎ ((¬ HasNoState) × (after ≡ stream) × IsSoundFor hash accepted verified key client × KeepsAll client background.earlier)

  -- a run begins: only evidence of earlier runs is told yet, there is no monitor, and of final bindings it knows what is
  -- remembered
  pub record StartsRun (key token : List ℕ) (HasNoState : Type 0) (stream : T) (background : Background) (start : Scene T) : Type 0 where
    pub again : start.told ≡ evidence_again background.known
    pub begins : BeginsAsking key token HasNoState stream background start.client start.stream
    pub knows : (background.key ≡ key) × (background.token ≡ token) × (start.monitors ≡ [])
    pub finals : IsKnownIn background.known start.finals

  -- A run from its beginning to its end: all that is new is followed, and the lines are asked. The stream is left
  -- as the last line left it.
  pub record RunsWhole (key token : List ℕ) (options : AskOptions) (HasNoState : Type 0) (stream stream' : T) (input : Option (List ℕ)) (status : ℕ) (old new : Option (List ℕ)) : Type 0 where
    pub background : Background
    pub start : Scene T
    pub begun : StartsRun key token HasNoState stream background start
    pub ready : Scene T
    pub now : Option (List ℕ)
    pub prepares : Writes (Prepares background HasNoState) start old now ready
    pub last : Scene T
    pub asks : IfSome (lines_asked options.words input) (λ lines. AsksLines background lines ready now new last)
    pub status_is : status ≡ last.told.status
    pub left : last.stream ≡ stream'
