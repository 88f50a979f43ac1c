use Rattle.std.proofs.Common.{◌≡◌, ◌∙◌, rules, ap, ap₂}
use Rattle.std.proofs.lemmas.Result.{IfOk-weaker}
use Rattle.clap.specs.Words.{app_of, rule_of, with_rule}
use Rattle.std.specs.Prelude.{true}
use Rattle.clap.specs.Simple.{app_of_fields, on_top}
use Rattle.clap.specs.declared.builder.command.Command.{Command}
use Rattle.clap.specs.declared.builder.command.Command.TheOpen.{Command-F}
use Rattle.jn_jobs.specs.Command.{bare, words_rule}
use Rattle.jn_jobs.proofs.command.command.Goals as goal

pub returns : goal.returns
returns c =
    let words_is : rule_of c.action-words.result ≡ words_rule = search rules in
    let bare_is : app_of c.disable_help_flag-bare.result ≡ bare = ap app_of_fields c.disable_help_flag-bare.ensures
    ∙ ap (λ (f : Command-F Command). app_of_fields (record f { disable_help_flag = true })) c.no_binary_name.ensures
    ∙ ap (on_top (λ s. record s { no_binary_name = true; disable_help_flag = true })) c.new-2.ensures.app in
    let one = c.in_ok-arg.ensures.shape (search rules) ∙ ap₂ with_rule bare_is words_is in
    let two = c.in_ok-arg-2.ensures.shape (search rules) ∙ ap₂ with_rule one c.option.ensures.rule in
    let three = c.in_ok-arg-3.ensures.shape (search rules) ∙ ap₂ with_rule two c.option-2.ensures.rule in
    IfOk-weaker c.arg-4.result _ _ (λ made h. h.shape (search rules) ∙ ap₂ with_rule three c.option-3.ensures.rule) c.arg-4.ensures
