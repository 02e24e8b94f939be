-- A name among the words that is text, and not in hexadecimal digits.
use Rattle.std.specs.Prelude.{◌||◌, List, ◌∷◌, Bool, true, false, Option, None, Some, codes, if◌then◌else◌}
use Rattle.std.specs.Str.{bytes_eq}
use Rattle.hex.specs.Hex.{encode_lower}
use Rattle.clap.specs.Words.{Text}
use Rattle.runs.specs.AskOptions.{AskOptions}

-- whether the first word behind this command is a name
abbrev pub takes_name : Text → Bool
takes_name command =
    (((((((bytes_eq command (codes "register") || bytes_eq command (codes "change")) || bytes_eq command (codes "register2")) || bytes_eq command (codes "change2"))
    || bytes_eq command (codes "promise")) || bytes_eq command (codes "lookup")) || bytes_eq command (codes "watch")) || bytes_eq command (codes "watch2"))
    || bytes_eq command (codes "settle")

-- the hexadecimal digits of the name among the words, if there is one
abbrev pub name_digits : List (Option Text) → Option Text
name_digits (Some command ∷ Some name ∷ more) = if takes_name command then Some (encode_lower name) else None
name_digits _ = None

-- the words with these digits, if there are some, behind the command
abbrev pub with_digits : Option Text → List (Option Text) → List (Option Text)
with_digits (Some digits) (command ∷ first ∷ more) = command ∷ Some digits ∷ more
with_digits _ words = words

-- what is asked, with the name in hexadecimal digits if it was given as text
abbrev pub texted : Bool → AskOptions → AskOptions
texted is_text asked = record asked { words = with_digits (if is_text then name_digits asked.words else None) asked.words }

-- the words ask what has a last epoch
abbrev pub has_last : List (Option Text) → Bool
has_last (Some command ∷ more) = (bytes_eq command (codes "watch") || bytes_eq command (codes "watch2")) || bytes_eq command (codes "head")
has_last _ = false

-- the lines of the input are asked
abbrev pub lacks_command : List (Option Text) → Bool
lacks_command (Some command ∷ more) = false
lacks_command _ = true
