use Rattle.std.proofs.Common.{◌≡◌, ◌∙◌, ◌∷◌, List, Some, ap, false, inl, inr, length, refl, rules, sym}
use Rattle.memory.specs.Memories.{Memory}
use Rattle.memory.specs.Texts.{memory_text}
use Rattle.runs.specs.Saves.{Act, Writes}
use Rattle.runs.specs.Standing.{DropsAlarms, SettlesState}
use Rattle.runs.proofs.Left.{settled_writes}
use Rattle.runs.proofs.run.Run.drop_alarms.Goals as goal

pub returns-clause-hands : goal.returns-clause-hands
returns-clause-hands g c = λ acts has.
    let was : c.args.self.now.state ≡ Some c.in-Some.state.now = search rules in
    let done : SettlesState c.args.name.now (g.K.Keeper.has c.finish.new.keeper) acts (Some c.in-Some.state.now) (g.W.Write.contents c.args.writer.now) = elim (c.finish.ensures.hands acts has) [
      | inl same ↦ inl same
      | inr (loaded, (tested, known, leaves, written)) ↦ inr (sym c.settle-count.ensures.same.0 ∙ loaded, (tested, c.settle-count.new.self.memory, known, c.settle-count.ensures.settles, leaves, written))
    ] in
    rw was done

pub returns-in_err-finish-clause-hands : goal.returns-in_err-finish-clause-hands
returns-in_err-finish-clause-hands g c = λ acts has.
    let was : c.args.self.now.state ≡ Some c.in-Some.state.now = search rules in
    let done : SettlesState c.args.name.now (g.K.Keeper.has c.finish.new.keeper) acts (Some c.in-Some.state.now) (g.W.Write.contents c.args.writer.now) = elim (c.finish.ensures.hands acts has) [
      | inl same ↦ inl same
      | inr (loaded, (tested, known, leaves, written)) ↦ inr (sym c.settle-count.ensures.same.0 ∙ loaded, (tested, c.settle-count.new.self.memory, known, c.settle-count.ensures.settles, leaves, written))
    ] in
    rw was done

pub returns-clause-drops : goal.returns-clause-drops
returns-clause-drops g c =
    let was : c.args.self.now.state ≡ Some c.in-Some.state.now = search rules in
    let done : DropsAlarms c.args.name.now (g.K.Keeper.has c.args.keeper.now) (g.K.Keeper.has c.finish.new.keeper) c.settle-count.result (Some c.in-Some.state.now) (Some c.finish.new.self) (g.W.Write.contents c.args.writer.now) = (
      c.finish.new.self,
      c.settle-count.new.self.memory,
      refl,
      c.settle-count.ensures.settles,
      c.settle-count.ensures.counted,
      c.finish.ensures.evidence ∙ ap (λ (m : Memory). m.evidence) c.settle-count.ensures.settles.1,
      settled_writes c.settle-count.result c.settle-count.new.self.size (length (memory_text c.finish.new.self.memory)) (c.settle-count.new.self.is_loaded ≡ false) (c.settle-count.new.self.epoch ≡ 0)
          ((acts : List Act) → g.K.Keeper.has c.args.keeper.now acts → g.K.Keeper.has c.finish.new.keeper (Writes (memory_text c.finish.new.self.memory) (g.W.Write.contents c.args.writer.now) ∷ acts))
          (c.in-Some.state.now.is_loaded ≡ false) (c.in-Some.state.now.epoch ≡ 0)
          (λ unloaded. sym c.settle-count.ensures.same.0 ∙ unloaded) (λ none. sym c.settle-count.ensures.same.1 ∙ none) c.settle-count.ensures.unsaved c.in_ok-finish.ensures.writes,
    ) in
    rw was done
