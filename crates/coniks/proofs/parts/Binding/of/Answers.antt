use Rattle.std.proofs.Common.{sym, ap, ◌∙◌}
use Rattle.proofs.specs.Views.{key_stated}
use Rattle.coniks.proofs.Cuts.{shows-key}
use Rattle.coniks.proofs.parts.Binding.of.Goals as goal

pub returns : goal.returns
returns c = λ bytes reply spelled size is.
    shows-key bytes reply spelled (record { value = c.in-Present.key.now; policy = c.in-Present.policy }) (sym is ∙ ap key_stated c.in-Present.is) c.args.value_len size c.policy_code.result c.policy_code.ensures c.policy_len.result c.policy_len.ensures.value
