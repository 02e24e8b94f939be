use Rattle.std.proofs.Common.{rules, ap, sym, subst, refl, ◌≡◌, ◌∙◌, true, false, List, Option, Some, None, map, option_map, Bool, inl, inr, ◌⊎◌, Result, Ok, Err}
use Rattle.std.specs.Prelude.{IfErr, IsErrAnd}
use Rattle.clap.specs.declared.error.Error.{Error}
use Rattle.std.specs.Prelude.{Box}
use Rattle.std.specs.Box.{box_value}
use Rattle.clap.specs.declared.parser.matches.ArgMatches.TheViews.{out-ArgMatches, out-SubCommand}
use Rattle.clap.specs.declared.parser.matches.SubCommand.{SubCommand}
use Rattle.clap.specs.Words.{App, Row, Text, HasKind, app_of, fault_of, found_of, is_simple, is_simple_and_free, kind_of, rows_of, subcommand_of, subcommand_rows, subcommand_rows_of, takes}
use Rattle.clap.specs.declared.builder.value_parser.ValueParser.{ValueParser}
use Rattle.clap.specs.declared.error.kind.ErrorKind.TheVariants.{OutOfMemory}
use Rattle.clap.proofs.OnLiterals.{clap_on_literals}
use Rattle.directoryd.specs.CommandLine.{directory_app, IsHashNames, RefusesWords}
use Rattle.directoryd.specs.Orders.{task_in}
use Rattle.directoryd.proofs.order.order.Goals as goal

is_simple-directory_app : (names : ValueParser) → is_simple (directory_app names) ≡ true
unfolding clap_on_literals
is_simple-directory_app names = refl

is_simple_and_free-directory_app : (names : ValueParser) → is_simple_and_free (directory_app names) ≡ true
unfolding clap_on_literals
is_simple_and_free-directory_app names = refl

name_of_rows : {Z : Type 0} (found : Option (Box SubCommand Z)) → option_map (λ p. p.0) (subcommand_rows found) ≡ option_map (λ b. (out-SubCommand (box_value b)).name.now) found
name_of_rows None = refl
name_of_rows (Some b) = refl

ordered_here : (s : Option (Text × List Row)) (name : Text) (rows : List Row) → Some name ≡ option_map (λ p. p.0) s → Some rows ≡ option_map (λ p. p.1) s
    → option_map (λ found. task_in found.0 found.1) s ≡ Some (task_in name rows)
ordered_here None name rows h k = cc
ordered_here (Some p) name rows h k =
    let e : name ≡ p.0 = cc in
    let f : rows ≡ p.1 = cc in
    rw (e, f) refl

pub returns-clause-ok : goal.returns-clause-ok
returns-clause-ok g c =
    let matches = c.in_ok-matches.matches in
    let made = c.in_ok-command.ensures in
    let names = made.0 in
    let app_is : app_of c.in_ok-command.field-0 ≡ directory_app names = made.2 in
    let words = map g.S.AsStr.text c.args.words.now in
    let sub : subcommand_rows_of matches ≡ subcommand_of (directory_app names) words
    = (c.in_ok-matches.ensures.matches (ap is_simple app_is ∙ is_simple-directory_app names)).1 ∙ ap (λ a. subcommand_of a words) app_is in
    let named : Some c.in-Some.name.now ≡ option_map (λ p. p.0) (subcommand_rows_of matches)
    = c.in-Some.ensures.name ∙ sym (name_of_rows (out-ArgMatches matches).subcommand) in (
      names,
      made.1,
      ap (λ a. fault_of a words) (sym app_is) ∙ c.in_ok-matches.ensures.kinds (ap is_simple_and_free app_is ∙ is_simple_and_free-directory_app names),
      ap (option_map (λ found. task_in found.0 found.1)) (sym sub)
          ∙ ordered_here (subcommand_rows_of matches) c.in-Some.name.now (rows_of (found_of c.in-Some.found.now)) named c.in-Some.ensures.rows
          ∙ ap (λ o. Some o) (sym c.named_order.ensures),
    )

-- clap's error is a refusal of the words, or says that memory ran out
refused : (names : ValueParser) (app : App) (words : List Text) (fault : Error) → IsHashNames names → app ≡ directory_app names
    → (takes app words ≡ true → kind_of fault ≡ OutOfMemory)
    → (is_simple_and_free app ≡ true → HasKind (fault_of app words) fault)
    → (kind_of fault ≡ OutOfMemory) ⊎ RefusesWords words fault
refused names app words fault given app_is passes kinds =
    by (takes (directory_app names) words) refl (subst (λ a. HasKind (fault_of a words) fault) app_is (kinds (ap is_simple_and_free app_is ∙ is_simple_and_free-directory_app names)))
  where
    by : (b : Bool) → takes (directory_app names) words ≡ b → HasKind (fault_of (directory_app names) words) fault
        → (kind_of fault ≡ OutOfMemory) ⊎ RefusesWords words fault
    by true e kind = inl (passes (ap (λ a. takes a words) app_is ∙ e))
    by false e (inl memory) = inl memory
    by false e (inr kind) = inr (names, given, e, kind)

err_is : {T : Type 0} (r : Result T Error) (P : Error → Type 0) (fault : Error) → IsErrAnd r (λ e. e ≡ fault) → P fault → IfErr r P
err_is (Ok x) P fault h p = tt
err_is (Err e) P fault h p = subst P (sym h) p

pub returns-in_err-matches-clause-err : goal.returns-in_err-matches-clause-err
returns-in_err-matches-clause-err g c =
    let made = c.in_ok-command.ensures in
    err_is c.from_residual-in_err-matches.result _ c.in_err-matches.field-0.0 (search rules)
    (refused made.0 (app_of c.in_ok-command.field-0) _ c.in_err-matches.field-0.0 made.1 made.2 c.in_err-matches.ensures.passes c.in_err-matches.ensures.kinds)
