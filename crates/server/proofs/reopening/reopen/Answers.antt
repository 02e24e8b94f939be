use Rattle.std.proofs.Common.{rules, ◌≡◌, Err, refl}
use Rattle.server.proofs.Reopened.{goes_on, starts_anew, uncut, unstarted}
use Rattle.server.proofs.reopening.reopen.Goals as goal

pub returns-in_ok-start_anew-in-Nothing-clause-opens : goal.returns-in_ok-start_anew-in-Nothing-clause-opens
returns-in_ok-start_anew-in-Nothing-clause-opens g c =
    starts_anew c.args.keys.now (g.F.Write.contents c.args.file.now) _ _ c.in_ok-opened.field-0.opened _ _ _ c.in_ok-opened.ensures.opens c.in-Nothing.is c.in_ok-opened.ensures.stays
    c.in_ok-start_anew-in-Nothing.ensures.starts

pub returns-in_ok-cut-in-Directory-clause-opens : goal.returns-in_ok-cut-in-Directory-clause-opens
returns-in_ok-cut-in-Directory-clause-opens g c =
    goes_on c.args.keys.now (g.F.Write.contents c.args.file.now) _ _ c.in_ok-opened.field-0.opened c.in-Directory.directory c.in_ok-opened.field-0.records c.in-Directory.taken _ _
    c.in_ok-opened.ensures.opens c.in-Directory.is c.in_ok-opened.ensures.stays c.in_ok-cut-in-Directory.ensures refl

pub returns-in_err-start_anew-in-Nothing-clause-stays : goal.returns-in_err-start_anew-in-Nothing-clause-stays
returns-in_err-start_anew-in-Nothing-clause-stays g c =
    let passed : c.from_residual-in_err-start_anew-in-Nothing.result ≡ Err c.in_err-start_anew-in-Nothing.field-0.0 = search rules in
    rw passed (unstarted c.args.keys.now c.in_err-start_anew-in-Nothing.field-0.0 (g.F.Write.contents c.args.file.now) _ _ c.in_ok-opened.field-0.opened _ _ c.in_ok-opened.ensures.opens c.in-Nothing.is c.in_ok-opened.ensures.stays
    c.in_err-start_anew-in-Nothing.ensures.stays)

pub returns-in_err-cut-in-Directory-clause-stays : goal.returns-in_err-cut-in-Directory-clause-stays
returns-in_err-cut-in-Directory-clause-stays g c =
    let passed : c.from_residual-in_err-cut-in-Directory.result ≡ Err c.in_err-cut-in-Directory.field-0.0 = search rules in
    rw passed (uncut c.args.keys.now c.in_err-cut-in-Directory.field-0.0 (g.F.Write.contents c.args.file.now) _ _ c.in_err-cut-in-Directory.ensures.0 c.in_ok-opened.ensures.stays c.in_err-cut-in-Directory.ensures.1)
