use Rattle.std.proofs.Common.{◌≡◌, ◌⊎◌, ◌<◌, true, inl, inr, arith, ltb-true, sym, ◌∙◌}
use Rattle.proofs.specs.Refusals.{reply_refusal_number}
use Rattle.coniks.proofs.Verdicts.{refused}
use Rattle.coniks.proofs.checking.accept_told.Goals as goal
use Rattle.coniks.proofs.checking.accept_told.Goals.{then-is_accepted-2, else-is_accepted-2}

pub returns-then-number-clause-refused : goal.returns-then-number-clause-refused
returns-then-number-clause-refused g c =
    let why : (c.args.is_accepted ≡ true) ⊎ (reply_refusal_number c.in-Err.why < 4) = elim c.if-is_accepted-2.branch [
      | then-is_accepted-2 w ↦ inl w.if-is_accepted-2.true
      | else-is_accepted-2 w ↦
          let low = ltb-true w.number.result w.number-else-is_accepted-2.result (sym w.value-is ∙ c.if-number.true) in
          let own = w.number.ensures in
          let other = w.number-else-is_accepted-2.ensures in
          inr (omega (arith, low, own, other))
    ] in
    refused g.H.NodeHash.digest_of c.args.body.now c.args.name.now c.args.bytes.now c.args.is_accepted c.in-Err.why why c.in-Err.ensures.refused
