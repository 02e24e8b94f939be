-- What the text of the file of keys gives, where there may be none.
use Rattle.std.proofs.Common.{◌≡◌, ℕ, List, [], ◌∷◌, Option, None, Some, Result, Ok, Err, ap, inl, inr, refl, sym, subst, append-nil, ◌∙◌}
use Rattle.std.specs.Io.KnownBytes.{Keeps}
use Rattle.std.proofs.KnownBytes.{Keeps-refl}
use Rattle.textio.specs.Output.{WritesSome}
use Rattle.files.proofs.Written.{none_told}
use Rattle.textio.specs.declared.program_fault.ProgramFault.{ProgramFault}
use Rattle.textio.specs.declared.program_fault.ProgramFault.TheVariants.{BadHex, OutOfMemory}
use Rattle.directoryd.specs.declared.keys.KeysKind.{KeysKind}
use Rattle.std.specs.Prelude.{◌⊎◌, IfErr, MatchResult, codes, is_some, if◌then◌else◌, option_and_then, option_map}
use Rattle.textio.specs.Digits.{hex32, hex32_or_zeros}
use Rattle.clap.specs.Words.{Text}
use Rattle.server.specs.Directories.{keys_if, keys_of}
use Rattle.server.specs.DirectoryOptions.{DirectoryOptions}
use Rattle.runs.specs.AskOptions.{AskOptions, ask_keys_of}
use Rattle.directoryd.specs.KeyFiles.{ask_with, complaint, complaint_line, directory_with, unusable_ask, unusable_line, no_key_line, option_line, option_or, or_else, provided, text_or, IsKeysFile, IsKeysText, IsNotRead, RefusesFile, TellsLine, Uses}
use Rattle.directoryd.specs.declared.keys.KeysKind.TheVariants.{Public, Secret}

text_stays : (given : Text) → text_or given None ≡ given
text_stays [] = refl
text_stays (byte ∷ more) = refl

option_stays : (given : Option Text) → option_or given None ≡ given
option_stays None = refl
option_stays (Some given) = λ i. Some (text_stays given i)

-- no text gives no key
directory_stays : (asked : DirectoryOptions) → directory_with [] asked ≡ asked
directory_stays asked = λ i. record asked {
  signing_key = text_stays asked.signing_key i;
  vuf_key = text_stays asked.vuf_key i;
  salt_key = text_stays asked.salt_key i;
  token = text_stays asked.token i;
  nonce = option_stays asked.nonce i;
}

ask_stays : (asked : AskOptions) → ask_with [] asked ≡ asked
ask_stays asked = λ i. record asked { signing_key = text_stays asked.signing_key i; token = option_stays asked.token i }

provided_stays : (asked : AskOptions) → provided [] asked ≡ asked
provided_stays asked = λ i. record asked { signing_key = text_stays asked.signing_key i }

-- so the options with the text are those that are used
pub directory_used : (keys : Option Text) (file : Text) (asked : DirectoryOptions) → IsKeysText Secret keys file → Uses Secret directory_with keys asked (directory_with file asked)
directory_used None file asked is = rw is (directory_stays asked)
directory_used (Some path) file asked is = (file, is.0, is.1, refl)

pub ask_used : (keys : Option Text) (file : Text) (asked : AskOptions) → IsKeysText Secret keys file → Uses Secret ask_with keys asked (ask_with file asked)
ask_used None file asked is = rw is (ask_stays asked)
ask_used (Some path) file asked is = (file, is.0, is.1, refl)

pub provided_used : (keys : Option Text) (file : Text) (asked : AskOptions) → IsKeysText Public keys file → Uses Public provided keys asked (provided file asked)
provided_used None file asked is = rw is (provided_stays asked)
provided_used (Some path) file asked is = (file, is.0, is.1, refl)

-- a text that is not taken says nothing of its file
pub not_taken : {A : Type 0} (kind : KeysKind) (path : Text) (Good : A → Type 0) (Bad : Type 0) (result : Result A ProgramFault) (contents : Option (List ℕ))
    → MatchResult result Good (λ fault. ((fault ≡ BadHex) × Bad) ⊎ (fault ≡ OutOfMemory)) → IfErr result (λ fault. IsNotRead kind path fault contents contents)
not_taken kind path Good Bad (Ok text) contents found = tt
not_taken kind path Good Bad (Err fault) contents (inl (is, _)) = inl (is, Keeps-refl contents)
not_taken kind path Good Bad (Err fault) contents (inr is) = inr (rw is tt, ([], none_told contents _))

kept_told : (old new : Option (List ℕ)) (text : List ℕ) → Keeps old new → WritesSome old new text
kept_told None new text keeps = (text, ([], refl, tt))
kept_told (Some xs) None text keeps = absurd keeps
kept_told (Some xs) (Some ys) text keeps = (text, ([], refl, keeps ∙ sym (append-nil xs)))

-- a text that is not of this kind is told of, unless memory runs out
pub refused : (kind : KeysKind) (path text what : Text) (fault : ProgramFault) (old new : Option (List ℕ)) → IsKeysFile text → complaint kind text ≡ Some what
    → ((fault ≡ OutOfMemory) × Keeps old new) ⊎ TellsLine (complaint_line kind path what) fault old new → RefusesFile kind path fault old new
refused kind path text what fault old new is bad (inl (none, keeps)) = inl (inr (rw none tt, ([], kept_told old new _ keeps)))
refused kind path text what fault old new is bad (inr line) = inr (text, what, is, bad, line)

-- ---- keys that cannot be used

by_hex : (found : Option (List ℕ)) (wrong line : List ℕ) → (if is_some found then None else Some wrong) ≡ Some line → found ≡ None
by_hex None wrong line is = refl
by_hex (Some bytes) wrong line is = absurd cc

unusable : (missing wrong : List ℕ) (text : Text) (line : List ℕ) → no_key_line missing wrong text ≡ Some line → hex32 text ≡ None
unusable missing wrong [] line is = refl
unusable missing wrong (byte ∷ more) line is = by_hex (hex32 (byte ∷ more)) wrong line is

unusable_option : (missing wrong : List ℕ) (option : Option Text) (line : List ℕ) → option_line missing wrong option ≡ Some line → hex32_or_zeros option ≡ None
unusable_option missing wrong None line is = absurd cc
unusable_option missing wrong (Some text) line is = unusable missing wrong text line is

or_from : {P : Type 0} (one other : Option (List ℕ)) (line : List ℕ) → (one ≡ Some line → P) → (other ≡ Some line → P) → or_else one other ≡ Some line → P
or_from None other line first second is = second is
or_from (Some found) other line first second is = first is

none_1 : (b c d e : Option (List ℕ)) (epoch : ℕ) → keys_if None b c d e epoch ≡ None
none_1 b c d e epoch = refl

none_2 : (a c d e : Option (List ℕ)) (epoch : ℕ) → keys_if a None c d e epoch ≡ None
none_2 None c d e epoch = refl
none_2 (Some a) c d e epoch = refl

none_3 : (a b d e : Option (List ℕ)) (epoch : ℕ) → keys_if a b None d e epoch ≡ None
none_3 None b d e epoch = refl
none_3 (Some a) None d e epoch = refl
none_3 (Some a) (Some b) d e epoch = refl

none_4 : (a b c e : Option (List ℕ)) (epoch : ℕ) → keys_if a b c None e epoch ≡ None
none_4 None b c e epoch = refl
none_4 (Some a) None c e epoch = refl
none_4 (Some a) (Some b) None e epoch = refl
none_4 (Some a) (Some b) (Some c) e epoch = refl

none_5 : (a b c d : Option (List ℕ)) (epoch : ℕ) → keys_if a b c d None epoch ≡ None
none_5 None b c d epoch = refl
none_5 (Some a) None c d epoch = refl
none_5 (Some a) (Some b) None d epoch = refl
none_5 (Some a) (Some b) (Some c) None epoch = refl
none_5 (Some a) (Some b) (Some c) (Some d) epoch = refl

pub no_keys : (asked : DirectoryOptions) (line : List ℕ) → unusable_line asked ≡ Some line → keys_of asked ≡ None
no_keys asked line is =
    let h1 = hex32 asked.signing_key in
    let h2 = hex32 asked.vuf_key in
    let h3 = hex32 asked.salt_key in
    let h4 = hex32 asked.token in
    let h5 = hex32_or_zeros asked.nonce in
    let sign = no_key_line (codes "sign-key is missing\n") (codes "sign-key is not 64 hexadecimal digits\n") asked.signing_key in
    let vuf = no_key_line (codes "vuf-key is missing\n") (codes "vuf-key is not 64 hexadecimal digits\n") asked.vuf_key in
    let salt = no_key_line (codes "salt-key is missing\n") (codes "salt-key is not 64 hexadecimal digits\n") asked.salt_key in
    let token = no_key_line (codes "token is missing\n") (codes "token is not 64 hexadecimal digits\n") asked.token in
    or_from (or_else (or_else (or_else sign vuf) salt) token) (option_line (codes "nonce is missing\n") (codes "nonce is not 64 hexadecimal digits\n") asked.nonce) line (or_from (or_else (or_else sign vuf) salt) token line (or_from (or_else sign vuf) salt line (or_from sign vuf line
    (λ no. subst (λ (h : Option (List ℕ)). keys_if h h2 h3 h4 h5 asked.epoch ≡ None) (sym (unusable (codes "sign-key is missing\n") (codes "sign-key is not 64 hexadecimal digits\n") asked.signing_key line no)) (none_1 h2 h3 h4 h5 asked.epoch))
    (λ no. subst (λ (h : Option (List ℕ)). keys_if h1 h h3 h4 h5 asked.epoch ≡ None) (sym (unusable (codes "vuf-key is missing\n") (codes "vuf-key is not 64 hexadecimal digits\n") asked.vuf_key line no)) (none_2 h1 h3 h4 h5 asked.epoch)))
    (λ no. subst (λ (h : Option (List ℕ)). keys_if h1 h2 h h4 h5 asked.epoch ≡ None) (sym (unusable (codes "salt-key is missing\n") (codes "salt-key is not 64 hexadecimal digits\n") asked.salt_key line no)) (none_3 h1 h2 h4 h5 asked.epoch)))
    (λ no. subst (λ (h : Option (List ℕ)). keys_if h1 h2 h3 h h5 asked.epoch ≡ None) (sym (unusable (codes "token is missing\n") (codes "token is not 64 hexadecimal digits\n") asked.token line no)) (none_4 h1 h2 h3 h5 asked.epoch)))
    (λ no. subst (λ (h : Option (List ℕ)). keys_if h1 h2 h3 h4 h asked.epoch ≡ None) (sym (unusable_option (codes "nonce is missing\n") (codes "nonce is not 64 hexadecimal digits\n") asked.nonce line no)) (none_5 h1 h2 h3 h4 asked.epoch))
    is

none_with : (key : Option (List ℕ)) → option_and_then {U = List ℕ × List ℕ} (λ (found : List ℕ). option_map (λ (token : List ℕ). (found, token)) None) key ≡ None
none_with None = refl
none_with (Some key) = refl

pub no_ask_keys : (asked : AskOptions) (line : List ℕ) → unusable_ask asked ≡ Some line → ask_keys_of asked ≡ None
no_ask_keys asked line is =
    or_from (no_key_line (codes "provider is missing\n") (codes "provider is not 64 hexadecimal digits\n") asked.signing_key)
    (option_line (codes "token is missing\n") (codes "token is not 64 hexadecimal digits\n") asked.token) line
    (λ no. ap (λ (key : Option (List ℕ)). option_and_then (λ found. option_map (λ token. (found, token)) (hex32_or_zeros asked.token)) key) (unusable (codes "provider is missing\n") (codes "provider is not 64 hexadecimal digits\n") asked.signing_key line no))
    (λ no. ap (λ (token : Option (List ℕ)). option_and_then (λ found. option_map (λ t. (found, t)) token) (hex32 asked.signing_key)) (unusable_option (codes "token is missing\n") (codes "token is not 64 hexadecimal digits\n") asked.token line no)
    ∙ none_with (hex32 asked.signing_key))
    is
