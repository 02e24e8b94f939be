-- The command line, as clap's definitions read it.
use Rattle.std.specs.Prelude.{◌≡◌, ℕ, ◌-◌, ◌^◌, List, [], ◌∷◌, Some, codes, map, true, false}
use Rattle.clap.specs.declared.builder.action.ArgAction.TheVariants.{SetTrue}
use Rattle.clap.specs.declared.builder.value_parser.ValueParser.{ValueParser}
use Rattle.clap.specs.declared.builder.value_parser.ValueParser.TheVariants.{Names, Unsigned}
use Rattle.clap.specs.declared.error.Error.{Error}
use Rattle.clap.specs.declared.error.kind.ErrorKind.{ErrorKind}
use Rattle.clap.specs.declared.error.kind.ErrorKind.TheVariants.{DisplayHelp, DisplayVersion}
use Rattle.directoryd.specs.declared.order.tables.TheConstants.{MOST_SESSIONS}
use Rattle.directoryd.specs.declared.refusing.TheConstants.{WRONG_WORDS}
use Rattle.clap.specs.Words.{App, IsAmong, Rule, Text, fault_of, kind_of, new_app, new_rule, takes, with_rule, with_subcommand}

-- the parser takes the names of the hash functions
abbrev pub IsHashNames : ValueParser → Type 0
IsHashNames (Names names) = map (λ name. name.now) names.now ≡ codes "sha256" ∷ codes "sum" ∷ []
IsHashNames _ = ⊥

-- `--hash`, whose default is sha256
abbrev pub hash_rule : ValueParser → Rule
hash_rule names = record (new_rule (codes "hash")) { long = Some (codes "hash"); defaults = codes "sha256" ∷ []; parser = Some names }

-- an option of this name, whose value is a text
abbrev pub text_rule : Text → Rule
text_rule name = record (new_rule name) { long = Some name; value_names = 1 }

-- such an option that has to be given
abbrev pub required_rule : Text → Rule
required_rule name = record (text_rule name) { required = true }

-- `--nonce`
abbrev pub nonce_rule : Rule
nonce_rule = text_rule (codes "nonce")

-- the greatest number of 64 bits
abbrev pub greatest : ℕ
greatest = 2 ^ 64 - 1

-- an option whose value is a number within these limits, with a default, as a text
abbrev pub bounded_rule : Text → ℕ → ℕ → Text → Rule
bounded_rule name least most default = record (text_rule name) { defaults = default ∷ []; parser = Some (Unsigned least most) }

-- the same with no other limit than that of 64 bits
abbrev pub number_rule : Text → ℕ → Text → Rule
number_rule name least default = bounded_rule name least greatest default

-- an option whose value is such a number, without a default
abbrev pub optional_rule : Text → ℕ → ℕ → Rule
optional_rule name least most = record (text_rule name) { parser = Some (Unsigned least most) }

-- an option without a value
abbrev pub flag_rule : Text → Rule
flag_rule name = record (new_rule name) { long = Some name; action = Some SetTrue }

-- a value that has to be given, with no name before it
abbrev pub positional_rule : Text → Rule
positional_rule name = record (new_rule name) { value_names = 1; required = true }

-- a value that may be given, with no name before it
abbrev pub word_rule : Text → Rule
word_rule name = record (new_rule name) { value_names = 1 }

-- a command, with the options of a tree
abbrev pub with_tree : ValueParser → App → App
with_tree names command = with_rule (with_rule command (hash_rule names)) nonce_rule

-- a command, with the keys of a directory and the token, and the file in which they may stand
abbrev pub with_keys : App → App
with_keys command =
    with_rule (with_rule (with_rule (with_rule (with_rule command
    (text_rule (codes "sign-key"))) (text_rule (codes "vuf-key"))) (text_rule (codes "salt-key"))) (text_rule (codes "token"))) (text_rule (codes "keys"))

-- `--journal`
abbrev pub journal_rule : Rule
journal_rule = text_rule (codes "journal")

-- a command, with the options of a directory: its keys, its first epoch, the nonce of its trees, and its journal
abbrev pub with_directory : App → App
with_directory command = with_rule (with_rule (with_rule (with_keys command) (number_rule (codes "epoch") 1 (codes "1"))) nonce_rule) journal_rule

abbrev pub root_app : ValueParser → App
root_app names = with_tree names (new_app (codes "root"))

abbrev pub prove_app : ValueParser → App
prove_app names = with_tree names (with_rule (new_app (codes "prove")) (required_rule (codes "index")))

abbrev pub audit_app : App
audit_app = with_rule (new_app (codes "audit")) (required_rule (codes "key"))

abbrev pub judge_app : App
judge_app = with_rule (with_rule (new_app (codes "judge")) (required_rule (codes "key"))) (positional_rule (codes "file"))

abbrev pub play_app : App
play_app = new_app (codes "play")

abbrev pub serve_app : App
serve_app = with_directory (new_app (codes "serve"))

abbrev pub listen_app : App
listen_app =
    with_rule (with_rule (with_rule (with_rule (with_rule (with_rule (with_directory (new_app (codes "listen")))
    (number_rule (codes "count") 0 (codes "0"))) (bounded_rule (codes "sessions") 1 MOST_SESSIONS (codes "1000"))) (number_rule (codes "idle") 0 (codes "60")))
    (number_rule (codes "report") 0 (codes "0")))
    (flag_rule (codes "until-eof"))) (positional_rule (codes "address"))

abbrev pub ask_app : App
ask_app = with_rule (with_rule (with_rule (with_rule (with_rule (with_rule (with_rule (with_rule (with_rule (with_rule (with_rule (new_app (codes "ask"))
    (text_rule (codes "provider"))) (text_rule (codes "token"))) (text_rule (codes "keys"))) (text_rule (codes "state"))) (flag_rule (codes "text"))) (optional_rule (codes "after") 0 greatest))
    (positional_rule (codes "address"))) (word_rule (codes "command"))) (word_rule (codes "first"))) (word_rule (codes "second"))) (word_rule (codes "third"))

-- the program without its subcommands, of which one has to be there; it has a version
abbrev pub bare_app : App
bare_app =
    let top : App = new_app (codes "directoryd") in
    record top { top = record top.top { subcommand_required = true; has_version = true } }

abbrev pub directory_app : ValueParser → App
directory_app names =
    with_subcommand (with_subcommand (with_subcommand (with_subcommand (with_subcommand (with_subcommand (with_subcommand (with_subcommand bare_app
    (root_app names).top) (prove_app names).top) audit_app.top) judge_app.top) play_app.top) serve_app.top) listen_app.top) ask_app.top

-- the words are refused, by a kind of fault that clap's function of the words gives
abbrev pub RefusesWords : List Text → Error → Type 0
RefusesWords words fault = (names : ValueParser) × IsHashNames names × (takes (directory_app names) words ≡ false)
    × IsAmong (kind_of fault) (fault_of (directory_app names) words)

-- the status of a program whose words clap refused: 0 where they asked for help or the version
abbrev pub status_of : ErrorKind → ℕ
status_of DisplayHelp = 0
status_of DisplayVersion = 0
status_of _ = WRONG_WORDS
