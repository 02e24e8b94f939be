use Rattle.std.proofs.Common.{◌∙◌, ap}
use Rattle.directoryd.specs.Orders.{number_from}
use Rattle.directoryd.proofs.Numbers.{none_read, number_read}
use Rattle.directoryd.proofs.order.number.Goals as goal

pub returns-in-Ok-clause-is : goal.returns-in-Ok-clause-is
returns-in-Ok-clause-is c =
    number_read c.args.least c.text.result.now c.in-Ok.number c.in-Ok.ensures.value.0 c.if-least-number.true ∙ ap (number_from c.args.least) c.text.ensures

pub returns-in_default-2-clause-is : goal.returns-in_default-2-clause-is
returns-in_default-2-clause-is c = none_read c.args.least c.text.result.now c.in_default.field-0 c.in_default.ensures.value.0 ∙ ap (number_from c.args.least) c.text.ensures
