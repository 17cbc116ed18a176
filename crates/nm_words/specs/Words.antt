-- The program's words, as clap describes a command this simple.
use Rattle.std.specs.Prelude.{◌≡◌, ◌&&◌, ℕ, true, List, [], ◌∷◌, Option, Some, None, codes, nat_le, if◌then◌else◌}
use Rattle.std.specs.Str.Parse.{digits_value, without_leading_plus}
use Rattle.clap.specs.Words.{App, Kinds, Rule, Text, fault_of, matches_of, new_app, new_rule, one_of, with_rule}
use Rattle.clap.specs.Simple.{on_top}
use Rattle.clap.specs.ValueTests.{is_unsigned_in}
use Rattle.clap.specs.declared.builder.action.ArgAction.TheVariants.{Set}
use Rattle.clap.specs.declared.builder.value_parser.ValueParser.TheVariants as vp
use Rattle.clap.specs.declared.error.kind.ErrorKind.{ErrorKind}
use Rattle.clap.specs.declared.error.kind.ErrorKind.TheVariants.{ValueValidation, ArgumentConflict, UnknownArgument, DisplayHelp, DisplayVersion}

-- `--workers N`, 1 to 64; 4 if it is not given
abbrev pub workers_rule : Rule
workers_rule = record (new_rule (codes "workers")) {
  long = Some (codes "workers");
  action = Some Set;
  value_names = 1;
  defaults = codes "4" ∷ [];
  parser = Some (vp.Unsigned 1 64);
}

-- the program has this option, and those for help and the version
abbrev pub program : App
program = with_rule (on_top (λ s. record s { has_version = true }) (new_app (codes "numatrace"))) workers_rule

-- why the words are refused: a list with the kinds of error that may be reported, empty if they are accepted
abbrev pub refusals_of : List Text → Kinds
refusals_of words = fault_of program words

-- how many workers copy if this number was read: 4 if it is not from 1 to 64, or none was read
abbrev pub workers_of : Option ℕ → ℕ
workers_of None = 4
workers_of (Some n) = if nat_le 1 n && nat_le n 64 then n else 4

-- the number that a value of the option gives; 4 if there is none
abbrev pub workers_in : Option Text → ℕ
workers_in None = 4
workers_in (Some text) = if is_unsigned_in 1 64 text then digits_value 10 (without_leading_plus text) else 4

-- how many workers the words ask for
abbrev pub workers_asked : List Text → ℕ
workers_asked words = workers_in (one_of (codes "workers") (matches_of program words))

-- the words are accepted, and ask for n workers
abbrev pub AreTaken : List Text → ℕ → Type 0
AreTaken words n = (refusals_of words ≡ []) × (workers_asked words ≡ n)

-- the words are refused with this kind of error
abbrev pub AreRefused : List Text → ErrorKind → Type 0
AreRefused words kind = refusals_of words ≡ kind ∷ []

-- worked words, after the program's name
abbrev pub WordRows : Type 0
WordRows =
    let name = codes "numatrace" in
    let option = codes "--workers" in
    AreTaken (name ∷ []) 4
    × AreTaken (name ∷ option ∷ codes "8" ∷ []) 8
    × AreTaken (name ∷ codes "--workers=64" ∷ []) 64
    × AreTaken (name ∷ option ∷ codes "+04" ∷ []) 4
    × AreRefused (name ∷ option ∷ codes "0" ∷ []) ValueValidation
    × AreRefused (name ∷ codes "--workers=65" ∷ []) ValueValidation
    × AreRefused (name ∷ option ∷ codes "2" ∷ option ∷ codes "2" ∷ []) ArgumentConflict
    × AreRefused (name ∷ codes "8" ∷ []) UnknownArgument
    × AreRefused (name ∷ codes "--help" ∷ []) DisplayHelp
    × AreRefused (name ∷ codes "-V" ∷ []) DisplayVersion
