use Rattle.std.proofs.Common.{◌≡◌, ℕ, [], List, None, Bor, Err, inl, inr, option_map, refl, rules, subst, sym}
use Rattle.textio.specs.Lines.{lines_of}
use Rattle.memory.specs.Memories.{Memory}
use Rattle.rootchain.specs.Chains.{KeyedRoots}
use Rattle.runs.specs.Loading.{IsSecond, KeepsLines, LoadsClient}
use Rattle.runs.specs.Remembering.{AreWithin}
use Rattle.runs.specs.Saves.{HasOneOfEachName}
use Rattle.runs.specs.declared.state_files.LineFile.{LineFile}
use Rattle.runs.proofs.Named.{fault_told, loads_first, nothing_known, second_none, spells_nothing}
use Rattle.runs.proofs.state_files.StateFiles.loaded.Goals as goal

pub returns-in-Ok-remember-clause-marks : goal.returns-in-Ok-remember-clause-marks
returns-in-Ok-remember-clause-marks g c =
    let (spells, same) = c.in-Ok-remember.ensures.spells in
    let here = subst (λ (chain : KeyedRoots). AreWithin chain c.remember.new.asker.known) (sym c.remember.ensures.chain) c.in-Ok-remember.ensures.within in (
      subst (λ (memory : Memory). AreWithin c.remember.new.asker.client.chain memory) (sym same) here,
      subst HasOneOfEachName (sym same) c.in-Ok-remember.ensures.once,
    )

pub returns-in-Err-remember-clause-names : goal.returns-in-Err-remember-clause-names
returns-in-Err-remember-clause-names g c =
    let hash = g.H.NodeHash.digest_of in
    let accepted = g.V.VufCheck.accepted in
    let verified = g.S.Verifier.verified in
    let start = c.in-Ok.asker.client in
    let text = c.whole_lines-lines.result.now in
    let bytes = option_map (λ (file : Bor LineFile). file.now.bytes.items) c.args.second in
    let is : IsSecond bytes text = search rules in
    fault_told c.in-Err-remember.fault c.fault_in-in-Err-remember.result (λ bad. KeepsLines hash accepted verified 1 (lines_of text) start (Err bad)) (λ bad. LoadsClient hash accepted verified c.args.key c.args.lines.now bytes (Err bad))
    c.fault_in-in-Err-remember.ensures.same (λ bad keeps. inr (start, text, c.in-Ok.ensures.starts, is, keeps)) c.in-Err-remember.ensures.names

pub returns-in_default-clause-loads : goal.returns-in_default-clause-loads
returns-in_default-clause-loads g c =
    let bytes : Bor LineFile → List ℕ = λ file. file.now.bytes.items in
    let none : c.args.second ≡ None = search rules in
    loads_first g.H.NodeHash.digest_of g.V.VufCheck.accepted g.S.Verifier.verified c.args.key c.args.lines.now (option_map bytes c.args.second) c.in-Ok.asker.client (second_none bytes c.args.second none) c.in-Ok.ensures.starts

pub returns-in_default-clause-spells : goal.returns-in_default-clause-spells
returns-in_default-clause-spells g c =
    let none : c.args.second ≡ None = search rules in
    ([], second_none (λ (file : Bor LineFile). file.now.bytes.items) c.args.second none, spells_nothing c.in-Ok.asker.known c.in-Ok.ensures.known)

pub returns-in_default-clause-text : goal.returns-in_default-clause-text
returns-in_default-clause-text g c = ([], inl refl, spells_nothing c.in-Ok.asker.known c.in-Ok.ensures.known)

pub returns-in_default-clause-finals : goal.returns-in_default-clause-finals
returns-in_default-clause-finals g c = nothing_known c.in-Ok.asker.known c.in-Ok.asker.finals c.in-Ok.ensures.known c.in-Ok.ensures.finals
