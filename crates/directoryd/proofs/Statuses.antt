-- The status of words that clap refused.
use Rattle.std.proofs.Common.{◌≡◌, refl}
use Rattle.std.specs.Prelude.{◌≢◌}
use Rattle.clap.specs.declared.error.kind.ErrorKind.{ErrorKind}
use Rattle.clap.specs.declared.error.kind.ErrorKind.TheVariants.{DisplayHelp, DisplayVersion}
use Rattle.directoryd.specs.CommandLine.{status_of}

pub is_two : (kind : ErrorKind) → kind ≢ DisplayHelp → kind ≢ DisplayVersion → 2 ≡ status_of kind
is_two DisplayHelp help version = absurd (help refl)
is_two DisplayVersion help version = absurd (version refl)
is_two _ help version = refl
