use Rattle.std.proofs.Common.{◌∙◌, codes}
use Rattle.clap.specs.Words.{first_of, found_of, rows_of}
use Rattle.clap.proofs.WalkLemmas.{first_value-rows}
use Rattle.directoryd.proofs.Numbers.{none_given, number_given}
use Rattle.directoryd.proofs.order.after.Goals as goal

pub returns-in-Some : goal.returns-in-Some
returns-in-Some c =
    let found = found_of c.args.found.now in
    number_given c.get_str.result c.in-Some.field-0 (first_of (codes "after") (rows_of found)) c.number.result c.in-Some.is (c.get_str.ensures ∙ first_value-rows found (codes "after")) c.number.ensures.is

pub returns-in-None : goal.returns-in-None
returns-in-None c =
    let found = found_of c.args.found.now in
    none_given c.get_str.result (first_of (codes "after") (rows_of found)) c.in-None.is (c.get_str.ensures ∙ first_value-rows found (codes "after"))
