use Rattle.std.proofs.Common.{◌≡◌, ◌∙◌, ap, refl, [], Option, None, Some, option_map, unwrap_or}
use Rattle.std.specs.Borrow.{Bor}
use Rattle.clap.specs.Words.{Text, found_of}
use Rattle.clap.proofs.WalkLemmas.{first_value-rows}
use Rattle.directoryd.proofs.order.text.Goals as goal

now_or : (given : Option (Bor Text)) (default : Bor Text) → default.now ≡ [] → (unwrap_or given default).now ≡ unwrap_or (option_map (λ t. t.now) given) []
now_or None default is = is
now_or (Some t) default is = refl

pub returns : goal.returns
returns c =
    ap (λ (t : Bor Text). t.now) c.unwrap_or.ensures ∙ now_or c.get_str.result _ refl
    ∙ ap (λ (t : Option Text). unwrap_or t []) (c.get_str.ensures ∙ first_value-rows (found_of c.args.found.now) c.args.name.now)
