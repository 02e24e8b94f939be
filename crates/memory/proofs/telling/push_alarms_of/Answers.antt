use Rattle.std.proofs.Common.{◌≡◌, ◌+◌, ◌++◌, ◌∷◌, [], List, ℕ, ap, arith, get_or, subst, sym, take, append_assoc, ◌∙◌}
use Rattle.std.proofs.Transfers.{starts_with_trans}
use Rattle.std.proofs.lemmas.List.{take_more}
use Rattle.memory.specs.Texts.{TellsAgain}
use Rattle.memory.specs.declared.alarm.Alarm.{Alarm}
use Rattle.memory.proofs.Left.{tells-append}
use Rattle.memory.proofs.telling.push_alarms_of.Goals as goal

pub loop-alarm-preserved : goal.loop-alarm-preserved
loop-alarm-preserved c =
    let alarms = c.args.alarms.now in
    let name = c.args.name.now in
    let place = c.loop-alarm.alarm-index in
    let alarm = c.alarm-item.result in
    let (before, is, tells) = c.loop-alarm.invariant.0 in
    let (one, more, told) = c.in_ok-count.ensures.ok in
    let next : take (place + 1) alarms ≡ take place alarms ++ get_or alarms place alarm ∷ [] = take_more alarms place alarm c.loop-alarm-test.true in
    let front = take place alarms in
    let whole = next ∙ ap (λ (a : Alarm). front ++ a ∷ []) (sym c.alarm-item.is) in
    let both = tells-append name front (alarm ∷ []) before one c.loop-alarm.count c.in_ok-count.field-0 tells told in
    let grown = more ∙ ap (λ (t : List ℕ). t ++ one) is ∙ append_assoc c.args.text.now.items before one in (
      (before ++ one, grown, subst (λ (xs : List Alarm). TellsAgain name xs (before ++ one) (c.loop-alarm.count + c.in_ok-count.field-0)) (sym whole) both),
      starts_with_trans _ _ _ c.in_ok-count.ensures.grows c.loop-alarm.invariant.1,
      omega (arith, c.in_ok-count.ensures.few, c.loop-alarm.invariant.2),
    )
