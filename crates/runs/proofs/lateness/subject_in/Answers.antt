use Rattle.std.proofs.Common.{◌≡◌, ◌∙◌, None, ap, rules, sym}
use Rattle.play.specs.Scripts.{line_of}
use Rattle.runs.specs.Lateness.{subject_of}
use Rattle.runs.proofs.Late.{words_subject}
use Rattle.runs.proofs.lateness.subject_in.Goals as goal

pub returns : goal.returns
returns c =
    let some : ¬ (c.args.order.now.command ≡ None) = search rules in
    c.subject_of.ensures ∙ ap subject_of (c.in_ok-line.ensures ∙ ap line_of (c.deref.ensures.value ∙ c.in_ok-words.ensures)) ∙ sym (words_subject c.args.order.now some)
