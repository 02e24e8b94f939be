-- The lines of a run, one after another.
use Rattle.std.proofs.Common.{◌≡◌, ◌∙◌, ℕ, true, false, List, [], ◌∷◌, Option, None, Some, Result, Ok, Err, Bor, ap, append-nil, append_assoc, arith, inl, inr, option_map, refl, subst, sym}
use Rattle.std.specs.Prelude.{◌++◌, Contains, IfOk, IfSome, OnOk}
use Rattle.std.proofs.lemmas.List.Elements.{Contains-append_right}
use Rattle.std.specs.Io.KnownBytes.{Appends}
use Rattle.std.proofs.KnownBytes.{Appends-nil, Appends-trans}
use Rattle.rootchain.specs.Chains.{KeyedRoots}
use Rattle.rootchain.specs.TakingLists.{PassesOrAdds, Takes}
use Rattle.rootchain.specs.declared.signed_root.SignedRoot.{SignedRoot}
use Rattle.client.specs.Clients.{Client}
use Rattle.client.specs.Updating.{Updates}
use Rattle.textio.specs.Lines.{lines_of}
use Rattle.wire.specs.Frames.{Frame}
use Rattle.wire.specs.Requests.{RequestContent}
use Rattle.play.specs.Reading.{TakesWholeLine}
use Rattle.asking.specs.FinalBindings.{IsKnownIn}
use Rattle.asking.specs.declared.asker.Asker.{Asker}
use Rattle.runs.specs.declared.order.AskOrder.{AskOrder}
use Rattle.asking.specs.declared.said.Said.{Said}
use Rattle.runs.specs.AskOptions.{AskOptions, ask_values}
use Rattle.asking.specs.Recalled.{evidence_again}
use Rattle.asking.specs.Reports.{Report, report_of, told_after}
use Rattle.runs.specs.Ending.{HasLast, RunsLate}
use Rattle.runs.specs.Runs.{AsksLine, AsksLines, BeginsAsking, StartsRun, emptied, Background, new_background, background_of, lines_asked, Prepares, words_line, Writes}
use Rattle.asking.specs.Scenes.{Scene, scene, StartsAtHead}
use Rattle.runs.specs.Standing.{AsksAmong}
use Rattle.asking.proofs.Joined.{scene_of}
use Rattle.asking.proofs.Telling.{worse_none}

module _ (hash : List ℕ → List ℕ) (accepted verified : List ℕ → List ℕ → List ℕ → Type 0) {T : Type 0} (exchanged : T → RequestContent → Frame → T → Type 0) (background : Background) where
  -- an output to which nothing was appended is as good
  from-same : (lines : List (List ℕ)) (before after : Scene T) (old now new : Option (List ℕ)) → Appends old now [] → AsksLines hash accepted verified exchanged background lines before now new after
      → AsksLines hash accepted verified exchanged background lines before old new after
  from-same [] before after old now new same (appends, is) = (Appends-trans old now new [] [] same appends, is)
  from-same (line ∷ more) before after old now new same (middle, next, (done, does, appends, left), rest) = (middle, next, (done, does, Appends-trans old now next [] done.told.lines same appends, left), rest)

  -- some lines are asked, and then more
  asks-then : (done more : List (List ℕ)) (start here after : Scene T) (old now new : Option (List ℕ)) → AsksLines hash accepted verified exchanged background done start old now here
      → AsksLines hash accepted verified exchanged background more here now new after → AsksLines hash accepted verified exchanged background (done ++ more) start old new after
  asks-then [] more start here after old now new (same, is) asks = subst (λ (s : Scene T). AsksLines hash accepted verified exchanged background more s old new after) is (from-same more here after old now new same asks)
  asks-then (line ∷ done) more start here after old now new (middle, next, writes, rest) asks = (middle, next, writes, asks-then done more middle here after next now new rest asks)

  -- one line is asked, and no other
  pub leads_once : (before after : Scene T) (old new : Option (List ℕ)) (line : List ℕ) → Writes (AsksLine hash accepted verified exchanged background line) before old new after
      → AsksLines hash accepted verified exchanged background (line ∷ []) before old new after
  leads_once before after old new line writes = (after, new, writes, (Appends-nil new, refl))

  -- some lines of the input are asked from the beginning to here, and these bytes are left
  abbrev pub LeadsOn : Scene T → Option (List ℕ) → Option (List ℕ) → Scene T → Option (List ℕ) → Option (List ℕ) → Type 0
  LeadsOn start input old here left now = (all : List ℕ) → input ≡ Some all → (rest : List ℕ) × (left ≡ Some rest)
      × (done : List (List ℕ)) × (lines_of all ≡ done ++ lines_of rest) × AsksLines hash accepted verified exchanged background done start old now here

  pub leads_first : (start : Scene T) (input old : Option (List ℕ)) → LeadsOn start input old start input old
  leads_first start input old = λ all is. (all, is, [], refl, (Appends-nil old, refl))

  -- a line that is taken is one of the input's
  pub leads_among : (start here : Scene T) (input old left left' now : Option (List ℕ)) (line : List ℕ) → LeadsOn start input old here left now → TakesWholeLine left left' true line → AsksAmong (option_map lines_of input) line
  leads_among start here None old left left' now line leads takes = λ said seen. tt
  leads_among start here (Some all) old left left' now line leads takes =
      let (rest, at, done, parts, asks) = leads all refl in
      by rest done parts left' (subst (λ (l : Option (List ℕ)). TakesWholeLine l left' true line) at takes)
    where
      by : (rest : List ℕ) (done : List (List ℕ)) → lines_of all ≡ done ++ lines_of rest → (left' : Option (List ℕ)) → TakesWholeLine (Some rest) left' true line → AsksAmong (Some (lines_of all)) line
      by rest done parts None bad = absurd bad
      by rest done parts (Some rest') is = λ said seen.
          (line, subst (λ (ls : List (List ℕ)). Contains ls line) (sym (parts ∙ ap (λ (ls : List (List ℕ)). done ++ ls) is)) (Contains-append_right done (line ∷ lines_of rest') line (0, omega arith, refl)), seen)

  -- one line more is asked
  pub leads_next : (start here next : Scene T) (input old left left' now now' : Option (List ℕ)) (line : List ℕ) → LeadsOn start input old here left now → TakesWholeLine left left' true line
      → Writes (AsksLine hash accepted verified exchanged background line) here now now' next → LeadsOn start input old next left' now'
  leads_next start here next input old left left' now now' line leads takes writes = λ all is.
      let (rest, at, done, parts, asks) = leads all is in
      by all rest done parts asks left' (subst (λ (l : Option (List ℕ)). TakesWholeLine l left' true line) at takes)
    where
      by : (all rest : List ℕ) (done : List (List ℕ)) → lines_of all ≡ done ++ lines_of rest → AsksLines hash accepted verified exchanged background done start old now here
          → (left' : Option (List ℕ)) → TakesWholeLine (Some rest) left' true line
          → (rest' : List ℕ) × (left' ≡ Some rest') × (done' : List (List ℕ)) × (lines_of all ≡ done' ++ lines_of rest') × AsksLines hash accepted verified exchanged background done' start old now' next
      by all rest done parts asks None bad = absurd bad
      by all rest done parts asks (Some rest') is = (
        rest',
        refl,
        done ++ line ∷ [],
        parts ∙ ap (λ (more : List (List ℕ)). done ++ more) is ∙ sym (append_assoc done (line ∷ []) (lines_of rest')),
        asks-then done (line ∷ []) start here next old now now' asks (leads_once here next now now' line writes),
      )

  -- no line is left
  pub leads_out : (start here : Scene T) (input old left left' now : Option (List ℕ)) (line : List ℕ) → LeadsOn start input old here left now → TakesWholeLine left left' false line
      → IfSome input (λ all. AsksLines hash accepted verified exchanged background (lines_of all) start old now here)
  leads_out start here None old left left' now line leads takes = tt
  leads_out start here (Some all) old left left' now line leads takes =
      let (rest, at, done, parts, asks) = leads all refl in
      let none : rest ≡ [] = subst (λ (l : Option (List ℕ)). TakesWholeLine l left' false line) at takes in
      subst (λ (lines : List (List ℕ)). AsksLines hash accepted verified exchanged background lines start old now here)
      (sym (parts ∙ ap (λ (bytes : List ℕ). done ++ lines_of bytes) none ∙ append-nil done)) asks

-- what a step leads to was told, and is written
pub written_so : {H V S T E : Type 0} (result : Result (Unit {0}) E) (Leads : Scene T → Scene T → Type 0) (before : Scene T) (asker : Asker H V S) (said said' : Said) (stream : T) (old new : Option (List ℕ))
    → OnOk result (Leads before (scene asker said stream)) → OnOk result (Appends old new said.text.items × (report_of said' ≡ emptied said.status)) → OnOk result (Writes Leads before old new (scene asker said' stream))
written_so (Err why) Leads before asker said said' stream old new leads writes = tt
written_so (Ok done) Leads before asker said said' stream old new leads (appends, told) =
    (scene asker said stream, leads, appends, scene_of asker.client asker.client asker.monitors.items asker.monitors.items asker.finals asker.finals (report_of said') (emptied said.status) stream refl refl refl told)

-- what holds of a step holds where what came after it did
pub ok_before : {A E B F : Type 0} (P : Type 0) (result : Result A E) (first : Result B F) (done : B) → OnOk result (first ≡ Ok done) → OnOk first P → OnOk result P
ok_before P (Err why) first done same holds = tt
ok_before {B = B} {F = F} P (Ok it) first done same holds = subst (λ (r : Result B F). OnOk r P) same holds

passed-key : (hash : List ℕ → List ℕ) (verified : List ℕ → List ℕ → List ℕ → Type 0) (chain : KeyedRoots) (root : SignedRoot) (after : KeyedRoots) → PassesOrAdds hash verified chain root after → after.key ≡ chain.key
passed-key hash verified chain root after (verifies, inl (background, same)) = ap (λ (c : KeyedRoots). c.key) same
passed-key hash verified chain root after (verifies, inr (next, same)) = ap (λ (c : KeyedRoots). c.key) same

pub taken-key : (hash : List ℕ → List ℕ) (verified : List ℕ → List ℕ → List ℕ → Type 0) (chain : KeyedRoots) (roots : List SignedRoot) (after : KeyedRoots) → Takes hash verified chain roots after → after.key ≡ chain.key
taken-key hash verified chain [] after same = ap (λ (c : KeyedRoots). c.key) same
taken-key hash verified chain (root ∷ roots) after (middle, passes, more) = taken-key hash verified middle roots after more ∙ passed-key hash verified chain root middle passes

-- a client that takes roots stays with its provider
pub updated_key : (hash : List ℕ → List ℕ) (verified : List ℕ → List ℕ → List ℕ → Type 0) (before after : Client) (list : List ℕ) → Updates hash verified before list {A = Unit {0}} (Ok tt) after → after.chain.key ≡ before.chain.key
updated_key hash verified before after list (roots, chain, spells, takes, same) = ap (λ (c : Client). c.chain.key) same ∙ taken-key hash verified before.chain roots chain takes

-- it begins with the directory's head
pub begins_at_head : {H V S T E : Type 0} (hash : List ℕ → List ℕ) (accepted verified : List ℕ → List ℕ → List ℕ → Type 0) (exchanged : T → RequestContent → Frame → T → Type 0) (key token : List ℕ) (HasNoState : Type 0)
    (result : Result (Asker H V S) E) (stream stream' : T) → IfOk result (λ asker. StartsAtHead verified exchanged key stream asker.client stream')
    → IfOk result (λ asker. (background_of asker ≡ new_background key token) × (asker.monitors.items ≡ []))
    → IfOk result (λ asker. BeginsAsking hash accepted verified exchanged key token HasNoState stream (background_of asker) asker.client stream')
begins_at_head hash accepted verified exchanged key token HasNoState (Ok asker) stream stream' starts knows = inl (starts, knows.0)
begins_at_head hash accepted verified exchanged key token HasNoState (Err why) stream stream' starts knows = tt

-- it is told after nothing
pub after_none : (told : Report) → told_after (emptied 0) told ≡ told
after_none told = ap (λ (n : ℕ). let t : Report = record { lines = told.lines; status = n } in t) (worse_none told.status)

-- a run begins, if nothing was told before
pub begins_run : {T : Type 0} (hash : List ℕ → List ℕ) (accepted verified : List ℕ → List ℕ → List ℕ → Type 0) (exchanged : T → RequestContent → Frame → T → Type 0) (key token : List ℕ) (HasNoState : Type 0)
    (background : Background) (stream : T) (start : Scene T) (first : Report) → start.told ≡ told_after first (evidence_again background.known)
    → BeginsAsking hash accepted verified exchanged key token HasNoState stream background start.client start.stream → (background.key ≡ key) × (background.token ≡ token) × (start.monitors ≡ []) → IsKnownIn background.known start.finals
    → first ≡ emptied 0 → StartsRun hash accepted verified exchanged key token HasNoState stream background start
begins_run hash accepted verified exchanged key token HasNoState background stream start first told begins knows finals none = record {
  again = told ∙ ap (λ (r : Report). told_after r (evidence_again background.known)) none ∙ after_none (evidence_again background.known);
  begins = begins;
  knows = knows;
  finals = finals;
}

-- a run is whole, where its lines are asked to the end
pub whole : {T E : Type 0} (hash : List ℕ → List ℕ) (accepted verified : List ℕ → List ℕ → List ℕ → Type 0) (exchanged : T → RequestContent → Frame → T → Type 0) (key token : List ℕ) (options : AskOptions) (HasNoState : Type 0)
    (result : Result (Unit {0}) E) (background background' : Background) (stream : T) (start ready last : Scene T) (input old now new : Option (List ℕ)) (first : Report) (Limited : Type 0) (Holds : ℕ → ℕ → Type 0)
    → (first ≡ emptied 0 → StartsRun hash accepted verified exchanged key token HasNoState stream background start)
    → Writes (Prepares hash accepted verified exchanged background HasNoState) start old now ready → background' ≡ background
    → OnOk result (IfSome (lines_asked options.words input) (λ lines. AsksLines hash accepted verified exchanged background' lines ready now new last))
    → OnOk result (Limited → HasLast hash accepted verified exchanged options background.marks last Holds)
    → OnOk result (first ≡ emptied 0 → Limited → RunsLate hash accepted verified exchanged key token options HasNoState stream last.stream input Holds last.told.status old new)
whole hash accepted verified exchanged key token options HasNoState (Err why) background background' stream start ready last input old now new first Limited Holds begun prepares same asks late = tt
whole hash accepted verified exchanged key token options HasNoState (Ok done) background background' stream start ready last input old now new first Limited Holds begun prepares same asks late = λ none limited. (
  record {
    background = background;
    start = start;
    begun = begun none;
    ready = ready;
    now = now;
    prepares = prepares;
    last = last;
    asks = subst (λ (k : Background). IfSome (lines_asked options.words input) (λ lines. AsksLines hash accepted verified exchanged k lines ready now new last)) same asks;
    status_is = refl;
    left = refl;
  },
  late limited,
)

-- an order without words asks the lines of the input, and one with words asks these
pub asks_input : {E : Type 0} (Asked : List (List ℕ) → Type 0) (result : Result (Unit {0}) E) (input : Option (List ℕ)) (order : AskOrder) → order.command ≡ None
    → OnOk result (IfSome input (λ all. Asked (lines_of all))) → OnOk result (IfSome (lines_asked (ask_values order).words input) Asked)
asks_input Asked (Err why) input order none asks = tt
asks_input Asked (Ok done) input order none asks = subst (λ (command : Option (Bor (List ℕ))). IfSome (lines_asked (option_map (λ text. text.now) command ∷ option_map (λ text. text.now) order.first ∷ option_map (λ text. text.now) order.second ∷ option_map (λ text. text.now) order.third ∷ []) input) Asked) (sym none) (by input asks)
  where
    by : (input : Option (List ℕ)) → IfSome input (λ all. Asked (lines_of all)) → IfSome (option_map lines_of input) Asked
    by None asks = tt
    by (Some all) asks = asks

pub asks_words : {E : Type 0} (Asked : List (List ℕ) → Type 0) (result : Result (Unit {0}) E) (input : Option (List ℕ)) (order : AskOrder) (word : Bor (List ℕ)) → order.command ≡ Some word
    → OnOk result (Asked (words_line (ask_values order).words ∷ [])) → OnOk result (IfSome (lines_asked (ask_values order).words input) Asked)
asks_words Asked (Err why) input order word some asks = tt
asks_words Asked (Ok done) input order word some asks =
    subst (λ (command : Option (Bor (List ℕ))). Asked (words_line (option_map (λ text. text.now) command ∷ option_map (λ text. text.now) order.first ∷ option_map (λ text. text.now) order.second ∷ option_map (λ text. text.now) order.third ∷ []) ∷ [])
    → IfSome (lines_asked (option_map (λ text. text.now) command ∷ option_map (λ text. text.now) order.first ∷ option_map (λ text. text.now) order.second ∷ option_map (λ text. text.now) order.third ∷ []) input) Asked) (sym some) (λ it. it) asks

pub none_before : {A B : Type 0} (f : A → B) (x : Option A) → option_map f x ≡ None → x ≡ None
none_before f None is = refl
none_before f (Some a) is = absurd cc

-- what is asked, where the order has words and where it has none
pub words_asked : (input : Option (List ℕ)) (order : AskOrder) (word : Bor (List ℕ)) → order.command ≡ Some word → lines_asked (ask_values order).words input ≡ Some (words_line (ask_values order).words ∷ [])
words_asked input order word some =
    subst (λ (command : Option (Bor (List ℕ))). lines_asked (option_map (λ text. text.now) command ∷ option_map (λ text. text.now) order.first ∷ option_map (λ text. text.now) order.second ∷ option_map (λ text. text.now) order.third ∷ []) input
    ≡ Some (words_line (option_map (λ text. text.now) command ∷ option_map (λ text. text.now) order.first ∷ option_map (λ text. text.now) order.second ∷ option_map (λ text. text.now) order.third ∷ []) ∷ [])) (sym some) refl

pub input_asked : (input : Option (List ℕ)) (order : AskOrder) → order.command ≡ None → lines_asked (ask_values order).words input ≡ option_map lines_of input
input_asked input order none =
    subst (λ (command : Option (Bor (List ℕ))). lines_asked (option_map (λ text. text.now) command ∷ option_map (λ text. text.now) order.first ∷ option_map (λ text. text.now) order.second ∷ option_map (λ text. text.now) order.third ∷ []) input ≡ option_map lines_of input) (sym none) refl

pub words_among : (lines : Option (List (List ℕ))) (line line' : List ℕ) → lines ≡ Some (line ∷ []) → line' ≡ line → AsksAmong lines line'
words_among lines line line' is same = subst (λ (l : List ℕ). AsksAmong lines l) (sym same) (subst (λ (ls : Option (List (List ℕ))). AsksAmong ls line) (sym is) (λ said seen. (line, (0, omega arith, refl), seen)))
