use Rattle.std.proofs.Common.{◌≡◌, ◌∙◌, ◌++◌, ℕ, List, ap, drop, refl, subst}
use Rattle.memory.specs.Learning.{Each, LearnsFinal}
use Rattle.memory.specs.Texts.{TakesAll}
use Rattle.memory.specs.declared.final_seen.FinalSeen.{FinalSeen}
use Rattle.memory.specs.declared.item.Item.{Item}
use Rattle.memory.proofs.Learned.{text_grows}
use Rattle.memory.proofs.Taken.{taken-append}
use Rattle.runs.proofs.Adding.{adds-as, finals-promises, learns-stay, some-finals-promises, some-finals-stay}
use Rattle.runs.proofs.Ended.{err_so}
use Rattle.runs.proofs.PutMarks.{marks-then, same-marks}
use Rattle.runs.proofs.state.State.learn_kept.Goals as goal

pub returns-clause-learns : goal.returns-clause-learns
returns-clause-learns g c =
    let (first, learns, grown) = c.in_ok-learn_promises.ensures.learns in
    let (rest, each, more) = c.in_ok-learn_finals.ensures.ok in
    let seen : c.behind-seen.result.now ≡ drop c.args.self.now.finals c.args.asker.now.finals.seen =
    c.behind-seen.ensures ∙ ap (λ (all : List FinalSeen). drop c.learn_promises.new.self.finals all) c.seen.ensures ∙ ap (λ (count : ℕ). drop count c.args.asker.now.finals.seen) c.learn_promises.ensures.finals in
    let finals = subst (λ (all : List FinalSeen). Each LearnsFinal all c.learn_promises.new.self.memory rest c.learn_finals.new.self) seen each in
    (first ++ rest, (first, c.learn_promises.new.self.memory, rest, learns, finals, refl), text_grows c.args.lines.now.items c.learn_promises.new.lines.items c.learn_finals.new.lines.items first rest grown more)

pub returns-clause-takes : goal.returns-clause-takes
returns-clause-takes g c = λ formed.
    let (first, one, grown) = c.in_ok-learn_promises.ensures.takes formed in
    let (rest, two, more) = c.in_ok-learn_finals.ensures.takes in (
      first ++ rest,
      taken-append first rest c.args.self.now.memory c.learn_promises.new.self.memory c.learn_finals.new.self one two,
      text_grows c.args.lines.now.items c.learn_promises.new.lines.items c.learn_finals.new.lines.items first rest grown more,
    )

pub returns-in_err-learn_finals-clause-taken : goal.returns-in_err-learn_finals-clause-taken
returns-in_err-learn_finals-clause-taken g c = λ formed.
    let (first, one, grown) = c.in_ok-learn_promises.ensures.takes formed in
    let (rest, two) = c.in_err-learn_finals.ensures.some in
    let both : (news : List Item) × TakesAll news c.args.self.now.memory c.learn_finals.new.self = (first ++ rest, taken-append first rest c.args.self.now.memory c.learn_promises.new.self.memory c.learn_finals.new.self one two) in
    err_so _ both

pub returns-in_err-learn_finals-clause-some : goal.returns-in_err-learn_finals-clause-some
returns-in_err-learn_finals-clause-some g c =
    let (first, learns, grown) = c.in_ok-learn_promises.ensures.learns in
    let own = drop c.args.self.now.changes c.args.asker.now.changes.items in
    let one = same-marks c.args.self.now.memory c.learn_promises.new.self.memory (learns-stay own c.args.asker.now.client.promises c.args.self.now.memory c.learn_promises.new.self.memory first learns) in
    let two = same-marks c.learn_promises.new.self.memory c.learn_finals.new.self (some-finals-stay c.behind-seen.result.now c.learn_promises.new.self.memory c.learn_finals.new.self c.in_err-learn_finals.ensures.err) in
    err_so _ (marks-then c.args.self.now.memory c.learn_promises.new.self.memory c.learn_finals.new.self one two)

pub returns-in_err-learn_finals-clause-own : goal.returns-in_err-learn_finals-clause-own
returns-in_err-learn_finals-clause-own g c =
    adds-as (drop c.args.self.now.changes c.args.asker.now.changes.items) c.args.self.now.memory c.learn_promises.new.self.memory c.learn_finals.new.self c.learn_promises.ensures.own
    (some-finals-promises c.behind-seen.result.now c.learn_promises.new.self.memory c.learn_finals.new.self c.in_err-learn_finals.ensures.err)

pub returns-clause-own : goal.returns-clause-own
returns-clause-own g c =
    let (rest, each, more) = c.in_ok-learn_finals.ensures.ok in
    adds-as (drop c.args.self.now.changes c.args.asker.now.changes.items) c.args.self.now.memory c.learn_promises.new.self.memory c.learn_finals.new.self c.learn_promises.ensures.own
    (finals-promises c.behind-seen.result.now c.learn_promises.new.self.memory c.learn_finals.new.self rest each)
