use Rattle.std.proofs.Common.{◌≡◌, ◌∙◌, ◌<◌, ◌++◌, Bool, false, true, ℕ, List, Ok, Err, Option, ap, arith, inl, inr, refl, rules, subst, sym}
use Rattle.memory.specs.declared.mark.Mark.{Mark}
use Rattle.textio.specs.declared.program_fault.ProgramFault.TheVariants.{CannotWrite}
use Rattle.asking.specs.Exchanges.{ExchangesFrames}
use Rattle.runs.specs.Lateness.{HasNoted, HasNotedAs, IsLast}
use Rattle.asking.specs.Reports.{report_of}
use Rattle.runs.specs.Runs.{background_of, Background}
use Rattle.runs.specs.Saves.{Act}
use Rattle.asking.specs.Scenes.{scene}
use Rattle.runs.specs.Standing.{standing, Fits, StateIsKept}
use Rattle.std.specs.Prelude.{IfSome}
use Rattle.runs.specs.declared.state.State.{State}
use Rattle.runs.proofs.CaughtUp.{lists-low}
use Rattle.asking.specs.declared.ask_fault.AskFault.TheVariants.{Stopped}
use Rattle.runs.specs.declared.run_fault.RunFault.TheVariants.{Ask, Program}
use Rattle.asking.specs.declared.following.TheConstants.{MAX_LISTS}
use Rattle.runs.proofs.Between.{all_behind, all_part, here_seen, lists_on, part_behind, seen_behind, stops_behind}
use Rattle.runs.proofs.Ended.{err_passed, err_so, leaves_with}
use Rattle.runs.proofs.Faulty.{grows_not, grows_on}
use Rattle.runs.proofs.Late.{limit_trans, noted_still}
use Rattle.runs.proofs.MarkedRuns.{marks-same, marks-then}
use Rattle.asking.proofs.Outcomes.{ok_then}
use Rattle.runs.proofs.Rising.{rises_on}
use Rattle.runs.proofs.RunSteps.{ok_have, prepared-asked, run-fits}
use Rattle.runs.proofs.Written.{state-saved}
use Rattle.runs.proofs.run.Run.catch_up.Goals as goal

pub loop-list-init : goal.loop-list-init
loop-list-init g c = record {
  lists = (refl, refl);
  same = refl;
  changes = refl;
  grows = grows_not (g.W.Write.contents c.args.writer.now);
  stands = λ lines start old acts stands. stands;
  rises = omega arith;
  marks = λ lines start old acts stands. marks-same c.args.self.now.state c.args.asker.now.monitors.items;
  none = λ had. had;
  limit = (refl, refl);
  noted = λ had. had;
}

pub loop-list-preserved : goal.loop-list-preserved
loop-list-preserved g c =
    let here = scene c.loop-list.asker c.loop-list.self.said c.loop-list.stream in
    let there = scene c.advance.new.asker c.advance.new.self.said c.advance.new.stream in
    let went : c.in_ok-advance.field-0 ≡ true = search rules in
    let once = rw went at c.in_ok-advance.ensures.advances in
    record {
      lists = lists_on g.H.NodeHash.digest_of g.V.VufCheck.accepted g.S.Verifier.verified (ExchangesFrames g.T.Write.contents g.T.Read.remaining) (background_of c.args.asker.now) c.args.epoch c.loop-list._list
          (scene c.args.asker.now c.args.self.now.said c.args.stream.now) here there (g.W.Write.contents c.args.writer.now) (g.W.Write.contents c.loop-list.writer) (g.W.Write.contents c.advance.new.writer) c.loop-list.invariant.lists once;
      same = c.in_ok-advance.ensures.stays ∙ c.loop-list.invariant.same;
      changes = c.in_ok-advance.ensures.changes ∙ c.loop-list.invariant.changes;
      grows = grows_on (g.W.Write.contents c.args.writer.now) (g.W.Write.contents c.loop-list.writer) (g.W.Write.contents c.advance.new.writer) c.loop-list.invariant.grows c.in_ok-advance.ensures.grows;
      stands = λ lines start old acts stands. ok_have c.advance.result c.in_ok-advance.was (c.advance.ensures.stands lines start old acts (c.loop-list.invariant.stands lines start old acts stands)).1;
      rises = rises_on c.args.self.now.said.status c.loop-list.self.said.status c.advance.new.self.said.status c.loop-list.invariant.rises c.in_ok-advance.ensures.rises;
      marks = λ lines start old acts stands. marks-then c.args.self.now.state c.loop-list.self.state c.advance.new.self.state c.args.asker.now.monitors.items c.loop-list.asker.monitors.items c.advance.new.asker.monitors.items
          (c.loop-list.invariant.marks lines start old acts stands) (c.in_ok-advance.ensures.marks lines start old acts (c.loop-list.invariant.stands lines start old acts stands));
      none = λ had. c.in_ok-advance.ensures.none (c.loop-list.invariant.none had);
      limit = limit_trans c.args.self.now.limit c.loop-list.self.limit c.advance.new.self.limit c.loop-list.invariant.limit c.in_ok-advance.ensures.limit;
      noted = λ had. c.in_ok-advance.ensures.notes (ap (λ (goes : Bool). Ok goes) went);
    }

pub returns-then-not-branch-clause-catches : goal.returns-then-not-branch-clause-catches
returns-then-not-branch-clause-catches g c =
    let here = scene c.loop-list.asker c.loop-list.self.said c.loop-list.stream in
    let there = scene c.advance.new.asker c.advance.new.self.said c.advance.new.stream in
    let went : c.in_ok-advance.field-0 ≡ false = search rules in
    let once = rw went at c.in_ok-advance.ensures.advances in
    let few : c.loop-list._list < MAX_LISTS = search rules in
    (c.loop-list._list, few, (here, g.W.Write.contents c.loop-list.writer, c.loop-list.invariant.lists, once))

pub returns-in_err-advance-clause-part : goal.returns-in_err-advance-clause-part
returns-in_err-advance-clause-part g c =
    let here = scene c.loop-list.asker c.loop-list.self.said c.loop-list.stream in
    let passed : c.from_residual.result ≡ Err c.in_err-advance.field-0.0 = search rules in
    let few : c.loop-list._list < MAX_LISTS = search rules in
    let (reached, part, holds) = c.in_err-advance.ensures.part in
    let holds' = leaves_with _ (c.from_residual.result ≡ Err (Program CannotWrite)) (g.W.Write.contents c.advance.new.writer) c.advance.new.self.said reached.told (g.W.Write.contents c.loop-list.writer)
    (err_passed {A = Bool} (Err c.in_err-advance.field-0.0) c.from_residual.result c.in_err-advance.field-0.0 (Program CannotWrite) refl passed) holds in
    err_so _ (part_behind g.H.NodeHash.digest_of g.V.VufCheck.accepted g.S.Verifier.verified (ExchangesFrames g.T.Write.contents g.T.Read.remaining) (background_of c.args.asker.now) c.args.epoch (c.from_residual.result ≡ Err (Program CannotWrite)) c.loop-list._list
    (scene c.args.asker.now c.args.self.now.said c.args.stream.now) here (g.W.Write.contents c.args.writer.now) (g.W.Write.contents c.loop-list.writer) (g.W.Write.contents c.advance.new.writer) c.advance.new.self.said c.loop-list.invariant.lists few (reached, part, holds'))

pub returns-in_err-advance-clause-stops : goal.returns-in_err-advance-clause-stops
returns-in_err-advance-clause-stops g c = λ stopped.
    let passed : c.from_residual.result ≡ Err c.in_err-advance.field-0.0 = search rules in
    let was : c.advance.result ≡ Err c.in_err-advance.field-0.0 = search rules in
    let few : c.loop-list._list < MAX_LISTS = search rules in
    stops_behind g.H.NodeHash.digest_of g.V.VufCheck.accepted g.S.Verifier.verified (ExchangesFrames g.T.Write.contents g.T.Read.remaining) (background_of c.args.asker.now) c.args.epoch ⊥ c.loop-list._list
    (scene c.args.asker.now c.args.self.now.said c.args.stream.now) (scene c.loop-list.asker c.loop-list.self.said c.loop-list.stream) (g.W.Write.contents c.args.writer.now) (g.W.Write.contents c.loop-list.writer) (g.W.Write.contents c.advance.new.writer)
    c.advance.new.self.said c.loop-list.invariant.lists few (c.advance.ensures.stops (err_passed c.from_residual.result c.advance.result c.in_err-advance.field-0.0 (Ask Stopped) passed was stopped))

pub returns-in_err-advance-clause-stands : goal.returns-in_err-advance-clause-stands
returns-in_err-advance-clause-stands g c = λ lines start old acts stands.
    let key = ap (λ (b : Background). b.key) c.loop-list.invariant.same in
    let after = c.advance.ensures.stands lines start old acts (c.loop-list.invariant.stands lines start old acts stands) in
    (subst (λ (k : List ℕ). StateIsKept g.H.NodeHash.digest_of g.V.VufCheck.accepted g.S.Verifier.verified lines k start old (λ (done : List Act). g.K.Keeper.has c.advance.new.keeper (done ++ acts)) c.advance.new.self.state (g.W.Write.contents c.advance.new.writer)) key after.0, search rules)

pub returns-then-not-branch-clause-stands : goal.returns-then-not-branch-clause-stands
returns-then-not-branch-clause-stands g c = λ lines start old acts stands.
    let key = ap (λ (b : Background). b.key) c.loop-list.invariant.same in
    let after = c.advance.ensures.stands lines start old acts (c.loop-list.invariant.stands lines start old acts stands) in (
      subst (λ (k : List ℕ). StateIsKept g.H.NodeHash.digest_of g.V.VufCheck.accepted g.S.Verifier.verified lines k start old (λ (done : List Act). g.K.Keeper.has c.advance.new.keeper (done ++ acts)) c.advance.new.self.state (g.W.Write.contents c.advance.new.writer)) key after.0,
      ok_have c.advance.result c.in_ok-advance.was after.1,
    )

pub returns-in_err-advance-clause-grows : goal.returns-in_err-advance-clause-grows
returns-in_err-advance-clause-grows g c = grows_on (g.W.Write.contents c.args.writer.now) (g.W.Write.contents c.loop-list.writer) (g.W.Write.contents c.advance.new.writer) c.loop-list.invariant.grows c.advance.ensures.grows

pub returns-then-not-branch-clause-grows : goal.returns-then-not-branch-clause-grows
returns-then-not-branch-clause-grows g c = grows_on (g.W.Write.contents c.args.writer.now) (g.W.Write.contents c.loop-list.writer) (g.W.Write.contents c.advance.new.writer) c.loop-list.invariant.grows c.advance.ensures.grows

pub returns-clause-grows : goal.returns-clause-grows
returns-clause-grows g c = grows_on (g.W.Write.contents c.args.writer.now) (g.W.Write.contents c.loop-list.writer) (g.W.Write.contents c.settle.new.writer) c.loop-list.invariant.grows c.settle.ensures.grows

pub returns-clause-catches : goal.returns-clause-catches
returns-clause-catches g c = ok_then c.settle.result c.settle.ensures.asked (λ never. search (rules, never))

pub returns-clause-part : goal.returns-clause-part
returns-clause-part g c =
    let all : c.loop-list._list ≡ MAX_LISTS = search rules in
    err_so _ (all_part g.H.NodeHash.digest_of g.V.VufCheck.accepted g.S.Verifier.verified (ExchangesFrames g.T.Write.contents g.T.Read.remaining) (background_of c.args.asker.now) c.args.epoch (c.settle.result ≡ Err (Program CannotWrite)) c.loop-list._list
    (scene c.args.asker.now c.args.self.now.said c.args.stream.now) (scene c.loop-list.asker c.loop-list.self.said c.loop-list.stream) (g.W.Write.contents c.args.writer.now) (g.W.Write.contents c.loop-list.writer) (g.W.Write.contents c.settle.new.writer)
    c.settle.new.self.said c.loop-list.invariant.lists all c.settle.ensures.leaves)

pub returns-clause-stops : goal.returns-clause-stops
returns-clause-stops g c = λ stopped.
    let all : c.loop-list._list ≡ MAX_LISTS = search rules in
    all_behind g.H.NodeHash.digest_of g.V.VufCheck.accepted g.S.Verifier.verified (ExchangesFrames g.T.Write.contents g.T.Read.remaining) (background_of c.args.asker.now) c.args.epoch ⊥ c.loop-list._list
    (scene c.args.asker.now c.args.self.now.said c.args.stream.now) (scene c.loop-list.asker c.loop-list.self.said c.loop-list.stream) (g.W.Write.contents c.args.writer.now) (g.W.Write.contents c.loop-list.writer) (g.W.Write.contents c.settle.new.writer)
    c.settle.new.self.said c.loop-list.invariant.lists all
    (leaves_with (c.settle.result ≡ Err (Program CannotWrite)) ⊥ (g.W.Write.contents c.settle.new.writer) c.settle.new.self.said (report_of c.loop-list.self.said) (g.W.Write.contents c.loop-list.writer) (λ failed. search (rules, sym stopped ∙ failed)) c.settle.ensures.leaves)

pub returns-clause-stands : goal.returns-clause-stands
returns-clause-stands g c = λ lines start old acts stands.
    let key = ap (λ (b : Background). b.key) c.loop-list.invariant.same in
    let asker = c.loop-list.asker in
    let said = c.loop-list.self.said in
    let state = c.loop-list.self.state in
    let out = g.W.Write.contents c.loop-list.writer in
    let here = c.loop-list.invariant.stands lines start old acts stands in
    let asked = prepared-asked g.H.NodeHash.digest_of g.V.VufCheck.accepted g.S.Verifier.verified lines start old (λ (done : List Act). g.K.Keeper.has c.loop-list.keeper (done ++ acts)) asker asker said.text.items state out refl here in
    let kept = state-saved g.H.NodeHash.digest_of g.V.VufCheck.accepted g.S.Verifier.verified lines asker.key start old (λ (done : List Act). g.K.Keeper.has c.loop-list.keeper (done ++ acts)) state out asker.changes.items (standing asker.client asker.monitors.items said.text.items) here.0 in (
      subst (λ (k : List ℕ). StateIsKept g.H.NodeHash.digest_of g.V.VufCheck.accepted g.S.Verifier.verified lines k start old (λ (done : List Act). g.K.Keeper.has c.settle.new.keeper (done ++ acts)) c.settle.new.self.state (g.W.Write.contents c.settle.new.writer)) key
          (c.settle.ensures.kept lines asker.key start old acts asked kept (λ enough. here.0)),
      ok_then c.settle.result c.settle.ensures.asked (λ never. search (rules, never)),
    )

pub returns-then-not-branch-clause-marks : goal.returns-then-not-branch-clause-marks
returns-then-not-branch-clause-marks g c = λ lines start old acts stands.
    marks-then c.args.self.now.state c.loop-list.self.state c.advance.new.self.state c.args.asker.now.monitors.items c.loop-list.asker.monitors.items c.advance.new.asker.monitors.items
    (c.loop-list.invariant.marks lines start old acts stands) (c.in_ok-advance.ensures.marks lines start old acts (c.loop-list.invariant.stands lines start old acts stands))

pub returns-clause-marks : goal.returns-clause-marks
returns-clause-marks g c = ok_then c.settle.result c.settle.ensures.asked (λ never. search (rules, never))

pub returns-in_err-advance-clause-limit : goal.returns-in_err-advance-clause-limit
returns-in_err-advance-clause-limit g c = limit_trans c.args.self.now.limit c.loop-list.self.limit c.advance.new.self.limit c.loop-list.invariant.limit c.advance.ensures.limit

pub returns-then-not-branch-clause-limit : goal.returns-then-not-branch-clause-limit
returns-then-not-branch-clause-limit g c = limit_trans c.args.self.now.limit c.loop-list.self.limit c.advance.new.self.limit c.loop-list.invariant.limit c.advance.ensures.limit

pub returns-clause-limit : goal.returns-clause-limit
returns-clause-limit g c = limit_trans c.args.self.now.limit c.loop-list.self.limit c.settle.new.self.limit c.loop-list.invariant.limit c.settle.ensures.limit

pub returns-in_err-advance-clause-noted : goal.returns-in_err-advance-clause-noted
returns-in_err-advance-clause-noted g c = λ had.
    let here = scene c.loop-list.asker c.loop-list.self.said c.loop-list.stream in
    let few : c.loop-list._list < MAX_LISTS = search rules in
    let marks = ap (λ (b : Background). b.marks) c.loop-list.invariant.same in
    let (seen, leads, noted) = c.advance.ensures.noted (c.loop-list.invariant.noted had) in
    let noted' = subst (λ (ms : List Mark). HasNotedAs (IsLast ms seen.client seen.monitors) c.advance.new.self.limit) marks noted in
    seen_behind g.H.NodeHash.digest_of g.V.VufCheck.accepted g.S.Verifier.verified (ExchangesFrames g.T.Write.contents g.T.Read.remaining) (background_of c.args.asker.now) c.args.epoch c.loop-list._list (scene c.args.asker.now c.args.self.now.said c.args.stream.now) here (g.W.Write.contents c.args.writer.now) (g.W.Write.contents c.loop-list.writer) c.loop-list.invariant.lists
    (λ client monitors. HasNotedAs (IsLast c.args.asker.now.marks.items client monitors) c.advance.new.self.limit) few (seen, leads, noted')

pub returns-then-not-branch-clause-noted : goal.returns-then-not-branch-clause-noted
returns-then-not-branch-clause-noted g c = λ had.
    let here = scene c.loop-list.asker c.loop-list.self.said c.loop-list.stream in
    let few : c.loop-list._list < MAX_LISTS = search rules in
    let marks = ap (λ (b : Background). b.marks) c.loop-list.invariant.same in
    let (seen, leads, noted) = c.advance.ensures.noted (c.loop-list.invariant.noted had) in
    let noted' = subst (λ (ms : List Mark). HasNotedAs (IsLast ms seen.client seen.monitors) c.advance.new.self.limit) marks noted in
    seen_behind g.H.NodeHash.digest_of g.V.VufCheck.accepted g.S.Verifier.verified (ExchangesFrames g.T.Write.contents g.T.Read.remaining) (background_of c.args.asker.now) c.args.epoch c.loop-list._list (scene c.args.asker.now c.args.self.now.said c.args.stream.now) here (g.W.Write.contents c.args.writer.now) (g.W.Write.contents c.loop-list.writer) c.loop-list.invariant.lists
    (λ client monitors. HasNotedAs (IsLast c.args.asker.now.marks.items client monitors) c.advance.new.self.limit) few (seen, leads, noted')

pub returns-clause-noted : goal.returns-clause-noted
returns-clause-noted g c = λ had.
    let here = scene c.loop-list.asker c.loop-list.self.said c.loop-list.stream in
    let all : c.loop-list._list ≡ MAX_LISTS = search rules in
    let marks = ap (λ (b : Background). b.marks) c.loop-list.invariant.same in
    let noted : HasNoted c.loop-list.asker c.settle.new.self.limit = elim c.settle.ensures.noted [
      | inl (some, new) ↦ new
      | inr (not, same) ↦ noted_still (IsLast c.loop-list.asker.marks.items c.loop-list.asker.client c.loop-list.asker.monitors.items) c.loop-list.self.limit c.settle.new.self.limit same (c.loop-list.invariant.noted had)
    ] in
    let noted' = subst (λ (ms : List Mark). HasNotedAs (IsLast ms c.loop-list.asker.client c.loop-list.asker.monitors.items) c.settle.new.self.limit) marks noted in
    here_seen g.H.NodeHash.digest_of g.V.VufCheck.accepted g.S.Verifier.verified (ExchangesFrames g.T.Write.contents g.T.Read.remaining) (background_of c.args.asker.now) c.args.epoch c.loop-list._list (scene c.args.asker.now c.args.self.now.said c.args.stream.now) here (g.W.Write.contents c.args.writer.now) (g.W.Write.contents c.loop-list.writer) c.loop-list.invariant.lists
    (λ client monitors. HasNotedAs (IsLast c.args.asker.now.marks.items client monitors) c.settle.new.self.limit) (omega (arith, all)) noted'

pub returns-then-not-branch-clause-low : goal.returns-then-not-branch-clause-low
returns-then-not-branch-clause-low g c = λ lines start old acts first low up high.
    let asker = c.loop-list.asker in
    let went : c.in_ok-advance.field-0 ≡ false = search rules in
    let stands = c.loop-list.invariant.stands lines start old acts first in
    let up' = lists-low g.H.NodeHash.digest_of g.V.VufCheck.accepted g.S.Verifier.verified (ExchangesFrames g.T.Write.contents g.T.Read.remaining) (background_of c.args.asker.now) c.args.epoch low high c.loop-list._list
    (scene c.args.asker.now c.args.self.now.said c.args.stream.now) (scene asker c.loop-list.self.said c.loop-list.stream) (g.W.Write.contents c.args.writer.now) (g.W.Write.contents c.loop-list.writer) c.loop-list.invariant.lists up in
    subst (λ (state : Option State). IfSome state (λ one. Fits low one.memory)) (sym (c.in_ok-advance.ensures.waits (ap (λ (goes : Bool). Ok goes) went)))
    (run-fits g.H.NodeHash.digest_of g.V.VufCheck.accepted g.S.Verifier.verified lines start old (λ (done : List Act). g.K.Keeper.has c.loop-list.keeper (done ++ acts)) asker c.loop-list.self.said.text.items c.loop-list.self.state (g.W.Write.contents c.loop-list.writer) low stands up')

pub returns-clause-low : goal.returns-clause-low
returns-clause-low g c = ok_then c.settle.result c.settle.ensures.asked (λ never. search (rules, never))

pub returns-then-not-branch-clause-none : goal.returns-then-not-branch-clause-none
returns-then-not-branch-clause-none g c = λ had. c.in_ok-advance.ensures.none (c.loop-list.invariant.none had)

pub returns-clause-none : goal.returns-clause-none
returns-clause-none g c = ok_then c.settle.result c.settle.ensures.asked (λ never. search (rules, never))
