use Rattle.std.proofs.Common.{suc}
use Rattle.book.proofs.Soundness.{sound_fresh}
use Rattle.book.proofs.SoundRuns.{run-sound}
use Rattle.book.proofs.laws.soundness_stays.Goals as goal

pub returns-clause-fresh : goal.returns-clause-fresh
returns-clause-fresh g c index_of epoch nonce salts is size gives = (sound_fresh index_of epoch nonce salts is size (gives 0), λ count. gives (suc count))

pub returns-clause-runs : goal.returns-clause-runs
returns-clause-runs g c provider book after keeper keeper_after commands replies sound salts are run =
    let stays = run-sound provider g.K.Keeper.kept g.K.Keeper.failed commands replies book after keeper keeper_after sound salts are run in (stays.sound, stays.salts)
