use Rattle.std.proofs.Common.{rules, ◌≡◌, ◌∙◌, List, Err, ap, ap₂, sym, subst, map, codes, true}
use Rattle.std.specs.Prelude.{string_bytes}
use Rattle.std.specs.Str.Parse.{ExplainsUnsignedError, HasUnsignedDigitsIfOk, ParsesUnsigned}
use Rattle.clap.specs.Words.{FailsBy, Text, app_of, found_of, new_app, one_text, rule_of, with_rule}
use Rattle.clap.specs.Simple.{app_of_fields, on_top}
use Rattle.nm_words.specs.Words.{program, refusals_of, workers_in, workers_rule}
use Rattle.nm_words.proofs.Asked.{asked_of, refused_of, value_of}
use Rattle.nm_words.proofs.words.read_words.Goals.{In_ok-command}
use Rattle.nm_words.proofs.words.read_words.Goals as goal

-- clap is asked about the program of the definition
its_program : (c : In_ok-command) → app_of c.in_ok-command.command ≡ program
its_program c =
    let rule_is : rule_of c.value_parser-workers.result ≡ workers_rule = search rules in
    let app_is : app_of c.after_help.result ≡ on_top (λ s. record s { has_version = true }) (new_app (codes "numatrace")) =
    ap app_of_fields c.after_help.ensures ∙ ap app_of_fields c.about.ensures ∙ ap app_of_fields c.version.ensures ∙ ap (on_top (λ s. record s { has_version = true })) c.new-2.ensures.app in
    c.in_ok-command.ensures.shape (search rules) ∙ ap₂ with_rule app_is rule_is

pub returns-in_err-matches-clause-refused : goal.returns-in_err-matches-clause-refused
returns-in_err-matches-clause-refused c =
    let ws : List Text = map string_bytes c.args.words.now in
    let program_is = its_program (goal.at.returns-in_err-matches-clause-refused c).In_ok-command in
    let told : FailsBy (refusals_of ws) c.try_get_matches_from.result = refused_of _ ws c.try_get_matches_from.result program_is c.try_get_matches_from.ensures.kinds in
    let is : c.from_residual-in_err-matches.result ≡ Err c.in_err-matches.field-0.0 = search rules in
    subst (FailsBy (refusals_of ws)) (sym is) (subst (FailsBy (refusals_of ws)) c.in_err-matches.was told)

pub returns-clause-refused : goal.returns-clause-refused
returns-clause-refused c =
    let ws : List Text = map string_bytes c.args.words.now in
    let program_is = its_program (goal.at.returns-clause-refused c).In_ok-command in
    let told : FailsBy (refusals_of ws) c.try_get_matches_from.result = refused_of _ ws c.try_get_matches_from.result program_is c.try_get_matches_from.ensures.kinds in
    subst (FailsBy (refusals_of ws)) c.in_ok-matches.was told

pub returns-clause-number : goal.returns-clause-number
returns-clause-number c =
    let ws : List Text = map string_bytes c.args.words.now in
    let program_is = its_program (goal.at.returns-clause-number c).In_ok-command in
    c.workers_of.ensures.number
    ∙ asked_of (λ bs r. ParsesUnsigned 64 10 bs r × ExplainsUnsignedError 10 bs r × HasUnsignedDigitsIfOk bs r) (λ t r g. g.0) (one_text (found_of c.in_ok-matches.matches) (codes "workers")) c.get_one.result
    c.get_one.ensures.none c.get_one.ensures.value
    ∙ ap workers_in (value_of _ ws c.in_ok-matches.matches program_is c.in_ok-matches.ensures.matches)
