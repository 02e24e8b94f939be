-- The number that an option's text gives.
use Rattle.std.proofs.Common.{◌≡◌, ◌∙◌, ◌≤◌, ◌<◌, ℕ, Bool, true, false, List, [], Option, None, Some, Ok, Err, ap, option_map, unwrap_or, refl, arith, subst, sym}
use Rattle.std.specs.Borrow.{Bor}
use Rattle.std.specs.declared.num.ParseIntError.{ParseIntError}
use Rattle.std.specs.Str.Parse.{ParsesUnsigned, digits_value, without_leading_plus}
use Rattle.clap.specs.declared.builder.value_parser.ValueParser.TheVariants.{Unsigned}
use Rattle.clap.specs.ValueTests.{is_unsigned_in}
use Rattle.clap.specs.Words.{Text}
use Rattle.clap.proofs.ValueTestLemmas.{accepts-Accepts, Accepts-accepts}
use Rattle.directoryd.specs.CommandLine.{greatest}
use Rattle.directoryd.specs.Orders.{number_from}

-- the number that `parse` reads, where it is `least` or more
pub number_read : (least : ℕ) (text : List ℕ) (number : ℕ) → ParsesUnsigned {E = ParseIntError} 64 10 text (Ok number) → least ≤ number → number ≡ number_from least text
number_read least text number read from =
    let value = digits_value 10 (without_leading_plus text) in
    let is : number ≡ value = read.1 in
    let small : value < 18446744073709551616 = read.0.1 in
    let passes : is_unsigned_in least greatest text ≡ true
    = Accepts-accepts false (Unsigned least greatest) text (read.0.0, read.0.1, omega (arith, is, from), omega (arith, small)) in
    rw passes is

-- `least`, where `parse` reads none
pub none_read : (least : ℕ) (text : List ℕ) (error : ParseIntError) → ParsesUnsigned {E = ParseIntError} 64 10 text (Err error) → least ≡ number_from least text
none_read least text error read = go (is_unsigned_in least greatest text) refl
  where
    go : (b : Bool) → is_unsigned_in least greatest text ≡ b → least ≡ number_from least text
    go false passes = rw passes refl
    go true passes =
        let accepted = accepts-Accepts false (Unsigned least greatest) text passes in
        absurd (read (accepted.0, accepted.1))

-- the number of an option that is given
pub number_given : (given : Option (Bor Text)) (text : Bor Text) (first : Option Text) (number : ℕ) → given ≡ Some text → option_map (λ t. t.now) given ≡ first → number ≡ number_from 0 (unwrap_or first [])
    → ◌≡◌ {A = Option ℕ} (Some number) (option_map (number_from 0) first)
number_given given text first number is same value =
    let some : first ≡ Some text.now = sym same ∙ ap (λ (g : Option (Bor Text)). option_map (λ t. t.now) g) is in
    subst (λ (f : Option Text). number ≡ number_from 0 (unwrap_or f []) → ◌≡◌ {A = Option ℕ} (Some number) (option_map (number_from 0) f)) (sym some) (λ v. ap Some v) value

-- and of one that is not
pub none_given : (given : Option (Bor Text)) (first : Option Text) → given ≡ None → option_map (λ t. t.now) given ≡ first → ◌≡◌ {A = Option ℕ} None (option_map (number_from 0) first)
none_given given first none same =
    subst (λ (f : Option Text). ◌≡◌ {A = Option ℕ} None (option_map (number_from 0) f)) (sym (ap (λ (g : Option (Bor Text)). option_map (λ t. t.now) g) none) ∙ same) refl
