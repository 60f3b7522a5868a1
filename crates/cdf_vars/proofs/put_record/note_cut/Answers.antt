use Rattle.cdf_vars.proofs.put_record.note_cut.Goals as goal

pub returns-then-stays : goal.returns-then-stays
returns-then-stays c b now good knows yet forgot tidy = yet c.if-stays.true

pub returns : goal.returns
returns c b now good knows yet forgot tidy =
    c.note_tidy.ensures now tidy.good tidy.is_there (forgot _ (c.forget_index.ensures.known b good knows) c.forget_index.ensures.forgotten) tidy.tidy
