-- What a command line orders.
use Rattle.std.specs.Prelude.{◌≡◌, ℕ, Bool, List, [], ◌∷◌, Option, Some, option_map, unwrap_or, codes, if◌then◌else◌}
use Rattle.std.specs.Option.{option_map_or}
use Rattle.std.specs.Str.{bytes_eq}
use Rattle.std.specs.Str.Parse.{digits_value, without_leading_plus}
use Rattle.clap.specs.declared.builder.value_parser.ValueParser.{ValueParser}
use Rattle.clap.specs.ValueTests.{is_unsigned_in}
use Rattle.clap.specs.Words.{Row, Text, fault_of, first_of, subcommand_of}
use Rattle.items.specs.declared.orders.HashChoice.{HashChoice}
use Rattle.items.specs.declared.orders.HashChoice.TheVariants.{Sha256, Sum}
use Rattle.items.specs.TreeOptions.{TreeOptions, tree_values}
use Rattle.server.specs.ConnectionOptions.{ConnectionOptions, connections_of}
use Rattle.server.specs.DirectoryOptions.{DirectoryOptions, directory_values}
use Rattle.runs.specs.AskOptions.{AskOptions, ask_values}
use Rattle.directoryd.specs.declared.order.subcommands.AskTexts.{AskTexts}
use Rattle.directoryd.specs.declared.order.subcommands.Order.{Order}
use Rattle.directoryd.specs.declared.order.subcommands.Order.TheVariants.{Root, Prove, Audit, Judge, Play, Serve, Listen, Ask}
use Rattle.directoryd.specs.CommandLine.{directory_app, greatest, IsHashNames}

-- from where the texts of questions come: a file of the provider's public keys, and one of keys of which some are
-- secret; and whether the name among the words is text
pub record AskTextValues : Type 0 where
  pub provider : Option Text
  pub keys : Option Text
  pub is_text : Bool

abbrev pub texts_of : AskTexts → AskTextValues
texts_of texts = record {
  provider = option_map (λ path. path.now) texts.provider;
  keys = option_map (λ path. path.now) texts.keys;
  is_text = texts.is_text;
}

-- what is ordered: a root; the path of the index that a text gives; an audit under the key that a text
-- gives; the verdict, under such a key, on the file of this name; a script; a directory for one session; one for
-- so many connections, at the address that a text gives; or questions. The last three may have files of keys
pub data Task : Type 0 where
  the_root : TreeOptions → Task
  the_path : Text → TreeOptions → Task
  the_audit : Text → Task
  the_verdict : Text → Text → Task
  the_script : Task
  the_session : DirectoryOptions → Option Text → Task
  the_connections : DirectoryOptions → ConnectionOptions → Option Text → Task
  the_questions : AskOptions → AskTextValues → Task

abbrev pub values_in : Order → Task
values_in (Root order) = the_root (tree_values order)
values_in (Prove order) = the_path order.index.now (tree_values order.root)
values_in (Audit order) = the_audit order.signing_key.now
values_in (Judge order) = the_verdict order.signing_key.now order.file.now
values_in Play = the_script
values_in (Serve order keys) = the_session (directory_values order) (option_map (λ path. path.now) keys)
values_in (Listen order keys) = the_connections (directory_values order.directory) (connections_of order) (option_map (λ path. path.now) keys)
values_in (Ask order texts) = the_questions (ask_values order) (texts_of texts)

-- the hash function of a name: the sum, or else SHA-256
abbrev pub hash_named : Option Text → HashChoice
hash_named name = option_map_or (λ text. if bytes_eq text (codes "sum") then Sum else Sha256) name Sha256

-- the text of an option, which is empty where none was given
abbrev pub text_in : Text → List Row → Text
text_in name rows = unwrap_or (first_of name rows) []

-- the number of a text that clap takes for a number from `least` on; of any other, `least`
abbrev pub number_from : ℕ → Text → ℕ
number_from least text = if is_unsigned_in least greatest text then digits_value 10 (without_leading_plus text) else least

-- whether an option without a value is given
abbrev pub flag_in : Text → List Row → Bool
flag_in name rows = bytes_eq (text_in name rows) (codes "true")

-- the values of a tree's options
abbrev pub asked_in : List Row → TreeOptions
asked_in rows = record { hash = hash_named (first_of (codes "hash") rows); nonce = first_of (codes "nonce") rows }

-- the values of a directory's options
abbrev pub directory_in : List Row → DirectoryOptions
directory_in rows = record {
  signing_key = text_in (codes "sign-key") rows;
  vuf_key = text_in (codes "vuf-key") rows;
  salt_key = text_in (codes "salt-key") rows;
  token = text_in (codes "token") rows;
  epoch = number_from 1 (text_in (codes "epoch") rows);
  nonce = first_of (codes "nonce") rows;
  journal = first_of (codes "journal") rows;
}

-- how connections are taken
abbrev pub connections_in : List Row → ConnectionOptions
connections_in rows = record {
  count = number_from 0 (text_in (codes "count") rows);
  sessions = number_from 1 (text_in (codes "sessions") rows);
  idle = number_from 0 (text_in (codes "idle") rows);
  report = number_from 0 (text_in (codes "report") rows);
  until_eof = flag_in (codes "until-eof") rows;
  address = text_in (codes "address") rows;
}

-- the epoch that the last one has to be above, if one is given
abbrev pub after_in : List Row → Option ℕ
after_in rows = option_map (number_from 0) (first_of (codes "after") rows)

-- the values of what is asked of a directory
abbrev pub asking_in : List Row → AskOptions
asking_in rows = record {
  signing_key = [];
  token = first_of (codes "token") rows;
  state = first_of (codes "state") rows;
  address = text_in (codes "address") rows;
  words = first_of (codes "command") rows ∷ first_of (codes "first") rows ∷ first_of (codes "second") rows ∷ first_of (codes "third") rows ∷ [];
  after = after_in rows;
}

-- from where the texts of what is asked come
abbrev pub texts_in : List Row → AskTextValues
texts_in rows = record {
  provider = first_of (codes "provider") rows;
  keys = first_of (codes "keys") rows;
  is_text = flag_in (codes "text") rows;
}

-- what a subcommand orders by its name: a path, an audit, a verdict, a script, a session, connections,
-- questions, or else a root
abbrev pub task_in : Text → List Row → Task
task_in name rows =
    if bytes_eq name (codes "prove") then the_path (text_in (codes "index") rows) (asked_in rows)
    else (if bytes_eq name (codes "audit") then the_audit (text_in (codes "key") rows)
    else (if bytes_eq name (codes "judge") then the_verdict (text_in (codes "key") rows) (text_in (codes "file") rows)
    else (if bytes_eq name (codes "play") then the_script
    else (if bytes_eq name (codes "serve") then the_session (directory_in rows) (first_of (codes "keys") rows)
    else (if bytes_eq name (codes "listen")
    then the_connections (directory_in rows) (connections_in rows) (first_of (codes "keys") rows)
    else (if bytes_eq name (codes "ask") then the_questions (asking_in rows) (texts_in rows)
    else the_root (asked_in rows)))))))

-- what the words order: the values that clap's function of the words gives to the options
abbrev pub task : ValueParser → List Text → Option Task
task names words = option_map (λ found. task_in found.0 found.1) (subcommand_of (directory_app names) words)

-- clap's function finds no fault in the words, and this is what they order
abbrev pub IsTask : List Text → Task → Type 0
IsTask words what = (names : ValueParser) × IsHashNames names × (fault_of (directory_app names) words ≡ []) × (task names words ≡ Some what)
