use Rattle.std.proofs.Common.{◌≡◌, ◌∙◌, ◌++◌, List, true, false, ap, drop, map, refl, subst, sym}
use Rattle.std.specs.List.{AllByRecursion}
use Rattle.rootchain.specs.Promises.{IsSignedPromise}
use Rattle.rootchain.specs.declared.signed_promise.SignedPromise.{SignedPromise}
use Rattle.memory.specs.Learning.{promised_item, Each, IsFresh, LearnsOne}
use Rattle.memory.specs.Texts.{TakesAll}
use Rattle.memory.specs.declared.item.Item.{Item}
use Rattle.memory.proofs.Learned.{text_grows}
use Rattle.memory.proofs.Taken.{taken-append}
use Rattle.runs.proofs.Adding.{drop-all, fresh-formed, promised-formed}
use Rattle.runs.proofs.AskedOwn.{learns-changes, learns-others, whole-of}
use Rattle.runs.proofs.Ended.{err_so}
use Rattle.runs.proofs.PutMarks.{marks-then, promises-marks, same-marks, some-promises-marks}
use Rattle.runs.proofs.state.State.learn_promises.Goals as goal

pub returns-clause-learns : goal.returns-clause-learns
returns-clause-learns g c =
    let (first, one, grown) = c.in_ok-learn_promises.ensures.ok in
    let (rest, two, more) = c.in_ok-learn_promises-2.ensures.ok in
    let memory = c.args.self.now.memory in
    let fresh = c.fresh-fresh.result.now in
    let own : c.behind-own.result.now ≡ drop c.args.self.now.changes c.args.asker.now.changes.items = c.behind-own.ensures ∙ ap (drop c.args.self.now.changes) c.deref.ensures.value in
    let changes = subst (λ (xs : List SignedPromise). Each LearnsOne (map (promised_item true) xs) memory first c.learn_promises.new.self) own one in
    let is = subst (λ (kept : List SignedPromise). IsFresh memory kept fresh) c.promises.ensures.value c.fresh-fresh.ensures in (
      first ++ rest,
      (fresh, is, (first, c.learn_promises.new.self, rest, changes, two, refl)),
      text_grows c.args.lines.now.items c.learn_promises.new.lines.items c.learn_promises-2.new.lines.items first rest grown more,
    )

pub returns-in_err-learn_promises-clause-some : goal.returns-in_err-learn_promises-clause-some
returns-in_err-learn_promises-clause-some g c =
    let memory = c.args.self.now.memory in
    err_so _ (same-marks memory c.learn_promises.new.self (some-promises-marks true c.behind-own.result.now memory c.learn_promises.new.self c.in_err-learn_promises.ensures.err))

pub returns-in_err-learn_promises-2-clause-some : goal.returns-in_err-learn_promises-2-clause-some
returns-in_err-learn_promises-2-clause-some g c =
    let memory = c.args.self.now.memory in
    let (first, one, grown) = c.in_ok-learn_promises.ensures.ok in
    let stays = some-promises-marks false c.fresh-fresh.result.now c.learn_promises.new.self c.learn_promises-2.new.self c.in_err-learn_promises-2.ensures.err in
    err_so _ (marks-then memory c.learn_promises.new.self c.learn_promises-2.new.self (promises-marks true c.behind-own.result.now memory c.learn_promises.new.self first one)
    (same-marks c.learn_promises.new.self c.learn_promises-2.new.self stays))

pub returns-in_err-learn_promises-clause-own : goal.returns-in_err-learn_promises-clause-own
returns-in_err-learn_promises-clause-own g c =
    let own : c.behind-own.result.now ≡ drop c.args.self.now.changes c.args.asker.now.changes.items = c.behind-own.ensures ∙ ap (drop c.args.self.now.changes) c.deref.ensures.value in
    learns-changes c.args.asker.now.changes.items c.behind-own.result.now c.args.self.now.changes c.args.self.now.memory c.learn_promises.new.self own c.in_err-learn_promises.ensures.err

pub returns-in_err-learn_promises-2-clause-own : goal.returns-in_err-learn_promises-2-clause-own
returns-in_err-learn_promises-2-clause-own g c =
    let memory = c.args.self.now.memory in
    let own : c.behind-own.result.now ≡ drop c.args.self.now.changes c.args.asker.now.changes.items = c.behind-own.ensures ∙ ap (drop c.args.self.now.changes) c.deref.ensures.value in
    let (first, one, grown) = c.in_ok-learn_promises.ensures.ok in
    let adds = learns-changes c.args.asker.now.changes.items c.behind-own.result.now c.args.self.now.changes memory c.learn_promises.new.self own (whole-of LearnsOne (map (promised_item true) c.behind-own.result.now) memory c.learn_promises.new.self first one) in
    learns-others (drop c.args.self.now.changes c.args.asker.now.changes.items) c.fresh-fresh.result.now memory c.learn_promises.new.self c.learn_promises-2.new.self adds c.in_err-learn_promises-2.ensures.err

pub returns-clause-own : goal.returns-clause-own
returns-clause-own g c =
    let memory = c.args.self.now.memory in
    let own : c.behind-own.result.now ≡ drop c.args.self.now.changes c.args.asker.now.changes.items = c.behind-own.ensures ∙ ap (drop c.args.self.now.changes) c.deref.ensures.value in
    let (first, one, grown) = c.in_ok-learn_promises.ensures.ok in
    let (rest, two, more) = c.in_ok-learn_promises-2.ensures.ok in
    let adds = learns-changes c.args.asker.now.changes.items c.behind-own.result.now c.args.self.now.changes memory c.learn_promises.new.self own (whole-of LearnsOne (map (promised_item true) c.behind-own.result.now) memory c.learn_promises.new.self first one) in
    learns-others (drop c.args.self.now.changes c.args.asker.now.changes.items) c.fresh-fresh.result.now memory c.learn_promises.new.self c.learn_promises-2.new.self adds
    (whole-of LearnsOne (map (promised_item false) c.fresh-fresh.result.now) c.learn_promises.new.self c.learn_promises-2.new.self rest two)

pub returns-clause-takes : goal.returns-clause-takes
returns-clause-takes g c = λ formed.
    let memory = c.args.self.now.memory in
    let fresh = c.fresh-fresh.result.now in
    let own : c.behind-own.result.now ≡ drop c.args.self.now.changes c.args.asker.now.changes.items = c.behind-own.ensures ∙ ap (drop c.args.self.now.changes) c.deref.ensures.value in
    let changes = subst (AllByRecursion IsSignedPromise) (sym own) (drop-all IsSignedPromise c.args.self.now.changes c.args.asker.now.changes.items formed) in
    let kept = c.args.asker.now.client.promises in
    let is = subst (λ (ps : List SignedPromise). IsFresh memory ps fresh) c.promises.ensures.value c.fresh-fresh.ensures in
    let others = fresh-formed memory kept fresh is (promised-formed g.H.NodeHash.digest_of g.S.Verifier.verified c.args.asker.now.client.chain kept c.promises.ensures.sound.promises) in
    let (first, one, grown) = c.in_ok-learn_promises.ensures.takes changes in
    let (rest, two, more) = c.in_ok-learn_promises-2.ensures.takes others in (
      first ++ rest,
      taken-append first rest memory c.learn_promises.new.self c.learn_promises-2.new.self one two,
      text_grows c.args.lines.now.items c.learn_promises.new.lines.items c.learn_promises-2.new.lines.items first rest grown more,
    )

pub returns-in_err-learn_promises-clause-taken : goal.returns-in_err-learn_promises-clause-taken
returns-in_err-learn_promises-clause-taken g c = λ formed.
    let own : c.behind-own.result.now ≡ drop c.args.self.now.changes c.args.asker.now.changes.items = c.behind-own.ensures ∙ ap (drop c.args.self.now.changes) c.deref.ensures.value in
    let changes = subst (AllByRecursion IsSignedPromise) (sym own) (drop-all IsSignedPromise c.args.self.now.changes c.args.asker.now.changes.items formed) in
    err_so _ (c.in_err-learn_promises.ensures.some changes)

pub returns-in_err-learn_promises-2-clause-taken : goal.returns-in_err-learn_promises-2-clause-taken
returns-in_err-learn_promises-2-clause-taken g c = λ formed.
    let memory = c.args.self.now.memory in
    let fresh = c.fresh-fresh.result.now in
    let own : c.behind-own.result.now ≡ drop c.args.self.now.changes c.args.asker.now.changes.items = c.behind-own.ensures ∙ ap (drop c.args.self.now.changes) c.deref.ensures.value in
    let changes = subst (AllByRecursion IsSignedPromise) (sym own) (drop-all IsSignedPromise c.args.self.now.changes c.args.asker.now.changes.items formed) in
    let kept = c.args.asker.now.client.promises in
    let is = subst (λ (ps : List SignedPromise). IsFresh memory ps fresh) c.promises.ensures.value c.fresh-fresh.ensures in
    let others = fresh-formed memory kept fresh is (promised-formed g.H.NodeHash.digest_of g.S.Verifier.verified c.args.asker.now.client.chain kept c.promises.ensures.sound.promises) in
    let (first, one, grown) = c.in_ok-learn_promises.ensures.takes changes in
    let (rest, two) = c.in_err-learn_promises-2.ensures.some others in
    let both : (news : List Item) × TakesAll news memory c.learn_promises-2.new.self = (first ++ rest, taken-append first rest memory c.learn_promises.new.self c.learn_promises-2.new.self one two) in
    err_so _ both
