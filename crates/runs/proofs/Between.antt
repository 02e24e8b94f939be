-- A line whose parts are written one after another: what is written before is told before the rest.
use Rattle.std.proofs.Common.{◌≡◌, ◌∙◌, ◌⊎◌, ◌<◌, ◌≤◌, ◌+◌, ◌++◌, ℕ, zero, suc, true, false, List, [], Option, Result, Ok, Err, ap, append-nil, append_assoc, arith, inl, inr, refl, subst, sym}
use Rattle.std.specs.Prelude.{OnOk}
use Rattle.std.specs.Io.KnownBytes.{Appends}
use Rattle.std.proofs.KnownBytes.{Appends-nil, Appends-trans}
use Rattle.client.specs.Clients.{Client}
use Rattle.monitor.specs.Monitors.{Monitor}
use Rattle.wire.specs.Frames.{Frame}
use Rattle.wire.specs.Requests.{RequestContent}
use Rattle.memory.specs.declared.mark.Mark.{Mark}
use Rattle.asking.specs.Catching.{Advances, AdvancesBy, CatchesSome, CatchesUp, StopsBelow}
use Rattle.runs.specs.Ending.{AdvancesPart, HoldsBack}
use Rattle.asking.specs.Following.{IsBelow, StopsList}
use Rattle.asking.specs.Reports.{report_of, told_after, worse, Report}
use Rattle.runs.specs.Runs.{emptied, written, AdvancesLists, AdvancesOnce, Background, CatchesUpBy, Writes}
use Rattle.asking.specs.Scenes.{scene, Scene}
use Rattle.asking.specs.declared.following.TheConstants.{MAX_LISTS}
use Rattle.asking.specs.declared.asker.Asker.{Asker}
use Rattle.asking.specs.declared.said.Said.{Said}
use Rattle.asking.proofs.Joined.{scene_of}
use Rattle.runs.proofs.Ran.{after_none}
use Rattle.runs.proofs.Shifted.{advances-shift, advances_by-shift, advances_some-shift, after-after, shifted, stops-shift}
use Rattle.asking.proofs.Telling.{worse_none}

suc-one : (count : ℕ) → suc count ≡ count + 1
suc-one count = omega arith

-- this text was told first
abbrev pub first_told : List ℕ → Report
first_told text = record { lines = text; status = 0 }

with-told : {T : Type 0} (one : Scene T) (told told' : Report) → told ≡ told' → ◌≡◌ {A = Scene T} (record one { told = told }) (record one { told = told' })
with-told {T} one told told' same = ap (λ (r : Report). let s : Scene T = record one { told = r } in s) same

shifted-none : {T : Type 0} (one : Scene T) → shifted (first_told []) one ≡ one
shifted-none one = with-told one (told_after (first_told []) one.told) one.told (after_none one.told)

shifted-both : {T : Type 0} (text more : List ℕ) (one : Scene T) → shifted (first_told text) (shifted (first_told more) one) ≡ shifted (first_told (text ++ more)) one
shifted-both text more one = with-told one _ _ (after-after (first_told text) (first_told more) one.told)

whole-told : (told : Report) → told_after (first_told told.lines) (emptied told.status) ≡ told
whole-told told =
    ap (λ (xs : List ℕ). let r : Report = record { lines = xs; status = worse 0 told.status } in r) (append-nil told.lines)
    ∙ ap (λ (n : ℕ). let r : Report = record { lines = told.lines; status = n } in r) (worse_none told.status)

-- what was written of a scene was told first
written-shifted : {T : Type 0} (done : Scene T) → shifted (first_told done.told.lines) (written done) ≡ done
written-shifted done = with-told done _ done.told (whole-told done.told)

-- a text was written, and then some of what was told behind it
pub held_then : (Failed : Type 0) (old now new : Option (List ℕ)) (said : Said) (text : List ℕ) (told : Report) → Appends old now text → HoldsBack Failed new said told now → HoldsBack Failed new said (told_after (first_told text) told) old
held_then Failed old now new said text told appends (status, more, rest, is, further, cut) = (
  status ∙ sym (worse_none told.status),
  text ++ more,
  rest,
  ap (λ (xs : List ℕ). text ++ xs) is ∙ sym (append_assoc text more (said.text.items ++ rest)),
  Appends-trans old now new text more appends further,
  cut,
)

-- a text was written, and then all that was told behind it
pub written_behind : {H V S T E : Type 0} (result : Result (Unit {0}) E) (Leads : Scene T → Scene T → Type 0) (before : Scene T) (asker : Asker H V S) (said said' : Said) (stream : T) (old now new : Option (List ℕ)) (text : List ℕ) → Appends old now text
    → OnOk result (Leads before (shifted (first_told text) (scene asker said stream))) → OnOk result (Appends now new said.text.items × (report_of said' ≡ emptied said.status)) → OnOk result (Writes Leads before old new (scene asker said' stream))
written_behind (Err why) Leads before asker said said' stream old now new text appends leads writes = tt
written_behind (Ok done) Leads before asker said said' stream old now new text appends leads (further, told) = (
  shifted (first_told text) (scene asker said stream),
  leads,
  Appends-trans old now new text said.text.items appends further,
  scene_of asker.client asker.client asker.monitors.items asker.monitors.items asker.finals asker.finals (report_of said') (emptied (worse 0 said.status)) stream refl refl refl (told ∙ ap emptied (sym (worse_none said.status))),
)

module _ (hash : List ℕ → List ℕ) (accepted verified : List ℕ → List ℕ → List ℕ → Type 0) {T : Type 0} (exchanged : T → RequestContent → Frame → T → Type 0) (marks : List Mark) (epoch : ℕ) where
  -- one more list
  one_more : (count : ℕ) (before middle after : Scene T) → AdvancesBy hash accepted verified exchanged epoch count before middle → Advances hash accepted verified exchanged epoch middle true after
      → AdvancesBy hash accepted verified exchanged epoch (suc count) before after
  one_more zero before middle after same advances = (after, subst (λ (s : Scene T). Advances hash accepted verified exchanged epoch s true after) same advances, refl)
  one_more (suc count) before middle after (next, advances, more) last = (next, advances, one_more count next middle after more last)

  -- the chain was below the epoch at first
  below_first : (count : ℕ) (before middle : Scene T) → AdvancesBy hash accepted verified exchanged epoch count before middle → IsBelow epoch middle.client → IsBelow epoch before.client
  below_first zero before middle same low = subst (λ (s : Scene T). IsBelow epoch s.client) same low
  below_first (suc count) before middle (next, (below, rest), more) low = below

module _ (hash : List ℕ → List ℕ) (accepted verified : List ℕ → List ℕ → List ℕ → Type 0) {T : Type 0} (exchanged : T → RequestContent → Frame → T → Type 0) (background : Background) (epoch : ℕ) where
  -- the same, where what is told of each list is written before the next
  lists_more : (count : ℕ) (before here there : Scene T) (old now new : Option (List ℕ)) → AdvancesLists hash accepted verified exchanged epoch count before old now here
      → AdvancesOnce hash accepted verified exchanged epoch here now true new there → AdvancesLists hash accepted verified exchanged epoch (suc count) before old new there
  lists_more zero before here there old now new (same, is) once = (
    there,
    new,
    subst (λ (o : Option (List ℕ)). AdvancesOnce hash accepted verified exchanged epoch before o true new there) same
        (subst (λ (s : Scene T). AdvancesOnce hash accepted verified exchanged epoch s now true new there) is once),
    (refl, refl),
  )
  lists_more (suc count) before here there old now new (middle, next, first, rest) once = (middle, next, first, lists_more count middle here there next now new rest once)

  pub lists_on : (count : ℕ) (before here there : Scene T) (old now new : Option (List ℕ)) → AdvancesLists hash accepted verified exchanged epoch count before old now here
      → AdvancesOnce hash accepted verified exchanged epoch here now true new there → AdvancesLists hash accepted verified exchanged epoch (count + 1) before old new there
  lists_on count before here there old now new lists once =
      subst (λ (n : ℕ). AdvancesLists hash accepted verified exchanged epoch n before old new there) (suc-one count) (lists_more count before here there old now new lists once)

  -- so many lists are taken, and a text was written
  lists_by : (count : ℕ) (before here : Scene T) (old now : Option (List ℕ)) → AdvancesLists hash accepted verified exchanged epoch count before old now here
      → (text : List ℕ) × Appends old now text × AdvancesBy hash accepted verified exchanged epoch count before (shifted (first_told text) here)
  lists_by zero before here old now (same, is) = ([], subst (λ (o : Option (List ℕ)). Appends old o []) (sym same) (Appends-nil old), shifted-none here ∙ is)
  lists_by (suc count) before here old now (middle, next, (done, advances, appends, left), rest) =
      let (text, further, by) = lists_by count middle here next now rest in
      let first = first_told done.told.lines in
      let shifts = advances_by-shift hash accepted verified exchanged background.marks first epoch count middle (shifted (first_told text) here) by in
      let behind = subst (λ (s : Scene T). AdvancesBy hash accepted verified exchanged epoch count s (shifted first (shifted (first_told text) here))) (ap (λ (s : Scene T). shifted first s) left ∙ written-shifted done) shifts in (
        done.told.lines ++ text,
        Appends-trans old next now done.told.lines text appends further,
        (done, advances, subst (λ (s : Scene T). AdvancesBy hash accepted verified exchanged epoch count done s) (shifted-both done.told.lines text here) behind),
      )

  -- the chain gets as far as the epoch, and a text was written
  pub caught_up : (before after : Scene T) (old new : Option (List ℕ)) → CatchesUpBy hash accepted verified exchanged epoch before old new after
      → (text : List ℕ) × Appends old new text × CatchesUp hash accepted verified exchanged epoch before (shifted (first_told text) after)
  caught_up before after old new (count, few, (here, now, lists, (last, same))) =
      let (text, appends, by) = lists_by count before here old now lists in (
        text,
        subst (λ (o : Option (List ℕ)). Appends old o text) (sym same) appends,
        (count, few, (shifted (first_told text) here, by, advances-shift hash accepted verified exchanged background.marks (first_told text) epoch here false after last)),
      )

  module _ (count : ℕ) (before here : Scene T) where
    -- so many lists were taken, and perhaps a part of the next
    there_behind : (text : List ℕ) → AdvancesBy hash accepted verified exchanged epoch count before (shifted (first_told text) here) → count < MAX_LISTS → (reached : Scene T) → AdvancesPart hash accepted verified exchanged epoch here reached
        → CatchesSome hash accepted verified exchanged epoch before (shifted (first_told text) reached) ⊎ StopsBelow hash accepted verified exchanged epoch before (shifted (first_told text) reached)
    there_behind text by few reached (low, inl advances) = inl (
      below_first hash accepted verified exchanged background.marks epoch count before (shifted (first_told text) here) by low,
      (
        suc count,
        shifted (first_told text) reached,
        one_more hash accepted verified exchanged background.marks epoch count before (shifted (first_told text) here) (shifted (first_told text) reached) by
            (advances-shift hash accepted verified exchanged background.marks (first_told text) epoch here true reached advances),
        inl (omega (arith, few), refl),
      ),
    )
    there_behind text by few reached (low, inr (inl stops)) =
        inr (count, (shifted (first_told text) here, by, inl (few, low, stops-shift hash accepted verified exchanged background.marks (first_told text) here reached stops)))
    there_behind text by few reached (low, inr (inr some)) = inl (
      below_first hash accepted verified exchanged background.marks epoch count before (shifted (first_told text) here) by low,
      (count, shifted (first_told text) here, by, inr (few, advances_some-shift hash accepted verified exchanged background.marks (first_told text) epoch here reached some)),
    )

    module _ (old now : Option (List ℕ)) (lists : AdvancesLists hash accepted verified exchanged epoch count before old now here) (Is : Client → List Monitor → Type 0) where
      -- what is so of client and monitors behind these lists, is so in a scene of them
      pub here_seen : count ≤ MAX_LISTS → Is here.client here.monitors → (seen : Scene T) × ((seen ≡ before) ⊎ (CatchesSome hash accepted verified exchanged epoch before seen ⊎ StopsBelow hash accepted verified exchanged epoch before seen)) × Is seen.client seen.monitors
      here_seen few is = let (text, appends, by) = lists_by count before here old now lists in at text count by few
        where
          at : (text : List ℕ) (many : ℕ) → AdvancesBy hash accepted verified exchanged epoch many before (shifted (first_told text) here) → many ≤ MAX_LISTS
              → (seen : Scene T) × ((seen ≡ before) ⊎ (CatchesSome hash accepted verified exchanged epoch before seen ⊎ StopsBelow hash accepted verified exchanged epoch before seen)) × Is seen.client seen.monitors
          at text zero by few = (shifted (first_told text) here, inl by, is)
          at text (suc many) (next, advances, more) few = (shifted (first_told text) here, inr (inl (advances.0, (suc many, shifted (first_told text) here, (next, advances, more), inl (few, refl)))), is)

      pub seen_behind : count < MAX_LISTS → (seen : Scene T) × ((seen ≡ here) ⊎ AdvancesPart hash accepted verified exchanged epoch here seen) × Is seen.client seen.monitors
          → (seen : Scene T) × ((seen ≡ before) ⊎ (CatchesSome hash accepted verified exchanged epoch before seen ⊎ StopsBelow hash accepted verified exchanged epoch before seen)) × Is seen.client seen.monitors
      seen_behind few (seen, inl same, is) = here_seen (omega (arith, few)) (subst (λ (s : Scene T). Is s.client s.monitors) same is)
      seen_behind few (seen, inr part, is) = let (text, appends, by) = lists_by count before here old now lists in (shifted (first_told text) seen, inr (there_behind text by few seen part), is)

  module _ (Failed : Type 0) (count : ℕ) (before here : Scene T) (old now new : Option (List ℕ)) (said : Said) (lists : AdvancesLists hash accepted verified exchanged epoch count before old now here) where
    -- it ends at the next list
    pub part_behind : count < MAX_LISTS → (reached : Scene T) × AdvancesPart hash accepted verified exchanged epoch here reached × HoldsBack Failed new said reached.told now
        → (there : Scene T) × (CatchesSome hash accepted verified exchanged epoch before there ⊎ StopsBelow hash accepted verified exchanged epoch before there) × HoldsBack Failed new said there.told old
    part_behind few (reached, part, holds) =
        let (text, appends, by) = lists_by count before here old now lists in
        (shifted (first_told text) reached, there_behind count before here text by few reached part, held_then Failed old now new said text reached.told appends holds)

    -- a frame stops it there
    pub stops_behind : count < MAX_LISTS → (reached : Scene T) × IsBelow epoch here.client × StopsList hash verified exchanged here reached × HoldsBack Failed new said reached.told now
        → (there : Scene T) × StopsBelow hash accepted verified exchanged epoch before there × HoldsBack Failed new said there.told old
    stops_behind few (reached, low, stops, holds) =
        let (text, appends, by) = lists_by count before here old now lists in (
          shifted (first_told text) reached,
          (count, (shifted (first_told text) here, by, inl (few, low, stops-shift hash accepted verified exchanged background.marks (first_told text) here reached stops))),
          held_then Failed old now new said text reached.told appends holds,
        )

    -- so many lists are taken that no more are
    pub all_behind : count ≡ MAX_LISTS → HoldsBack Failed new said here.told now → (there : Scene T) × StopsBelow hash accepted verified exchanged epoch before there × HoldsBack Failed new said there.told old
    all_behind all holds =
        let (text, appends, by) = lists_by count before here old now lists in (
          shifted (first_told text) here,
          (count, (shifted (first_told text) here, by, inr (all, refl))),
          held_then Failed old now new said text here.told appends holds,
        )

    pub all_part : count ≡ MAX_LISTS → HoldsBack Failed new said here.told now
        → (there : Scene T) × (CatchesSome hash accepted verified exchanged epoch before there ⊎ StopsBelow hash accepted verified exchanged epoch before there) × HoldsBack Failed new said there.told old
    all_part all holds = let (there, stops, further) = all_behind all holds in (there, inr stops, further)
