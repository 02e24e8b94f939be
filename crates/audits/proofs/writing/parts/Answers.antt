use Rattle.std.proofs.Common.{◌≡◌, rules, ap, ◌∙◌}
use Rattle.std.proofs.lemmas.Result.{IfOk-weaker}
use Rattle.hex.specs.Hex.{IsBytes}
use Rattle.serde_json.specs.View.{view}
use Rattle.serde_json.specs.Written.{compact_text, has_float}
use Rattle.audits.specs.Files.{value_of}
use Rattle.audits.specs.Parts.{EvidenceParts}
use Rattle.audits.proofs.Files.{text_is_compact}
use Rattle.audits.proofs.writing.parts.Goals as goal

pub returns : goal.returns
returns c =
    let parts : EvidenceParts = record { first = c.args.first.now; kind = c.args.kind.now; second = c.args.second.now } in
    let built : view c.in_ok-object.field-0 ≡ value_of parts = search rules in
    let first : IsBytes c.args.first.now = search rules in
    let second : IsBytes c.args.second.now = search rules in
    let compact = text_is_compact parts first second c.requires.plain in
    IfOk-weaker c.to_string.result _ _ (λ text written. written (ap has_float built) ∙ ap compact_text built ∙ compact) c.to_string.ensures.text
