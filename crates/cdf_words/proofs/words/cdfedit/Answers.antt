use Rattle.cdf_words.proofs.Common.{ap₂, codes, command, flag_rule, rule_of, rules, with_rule, ◌∙◌, ◌≡◌}
use Rattle.cdf_words.proofs.words.cdfedit.Goals as goal

pub returns : goal.returns
unfolding command
returns c =
    let new : rule_of c.flag.result ≡ flag_rule (codes "new") = search rules in
    let check : rule_of c.flag-2.result ≡ flag_rule (codes "check") = search rules in
    let no_save : rule_of c.flag-3.result ≡ flag_rule (codes "no-save") = search rules in
    let space : rule_of c.flag-4.result ≡ flag_rule (codes "space") = search rules in
    c.in_ok-command.ensures.shape c.file.ensures.local ∙ ap₂ with_rule
    (c.in_ok-arg-4.ensures.shape c.flag-4.ensures.local ∙ ap₂ with_rule
    (c.in_ok-arg-3.ensures.shape c.flag-3.ensures.local ∙ ap₂ with_rule
    (c.in_ok-arg-2.ensures.shape c.flag-2.ensures.local ∙ ap₂ with_rule
    (c.in_ok-arg.ensures.shape c.flag.ensures.local ∙ ap₂ with_rule c.plain.ensures new)
    check) no_save) space) c.file.ensures.rule
