use Rattle.std.proofs.Common.{◌≡◌, ◌∙◌, ◌++◌, ap, codes, of_z, rules, sym, to_z, w32}
use Rattle.std.specs.Fmt.{decimal, signed_decimal}
use Rattle.cdf_model.specs.declared.event.Event.TheVariants as events
use Rattle.cdf_model.specs.EventTexts.{compress_text, event_text, pad_text, sparse_text, vary_text, varys_text}
use Rattle.cdf_model.specs.Texts.{kind_text, list_text}
use Rattle.cdf_model.specs.Types.{name_of}
use Rattle.cdf_model.specs.Values.{quoted}
use Rattle.cdf_dump.proofs.Parts.{four_parts, variable_parts}
use Rattle.cdf_dump.proofs.event.append_event.Goals as goal

pub returns-in_ok-append_pad-in-Var : goal.returns-in_ok-append_pad-in-Var
returns-in_ok-append_pad-in-Var c =
    let v = c.in-Var in
    let old = c.args.text.now.items in
    let blocking : to_z w32 (of_z w32 v.blocking) ≡ v.blocking = search rules in
    let max_rec : to_z w32 (of_z w32 v.max_rec) ≡ v.max_rec = search rules in
    four_parts old _ _ _ _ _ _ _ _ (rw c.as_slice-in-Var.ensures at c.in_ok-append_start-in-Var.ensures) (rw (c.as_slice-in-Var-2.ensures, c.as_slice-in-Var-3.ensures) at c.in_ok-append_dims-in-Var.ensures)
    c.in_ok-append_rules-in-Var.ensures (rw c.as_slice-in-Var-4.ensures at c.in_ok-append_pad-in-Var.ensures)
    ∙ ap (λ l. old ++ l) (variable_parts (kind_text v.kind) (codes " ") (decimal v.num) (quoted v.name) (name_of v.t) (decimal v.elems) (vary_text v.vary) (list_text v.dims) (varys_text v.varys)
    (codes " sparse ") (sparse_text v.sparse) (codes " compress ") (compress_text v.rle) (codes " blocking ") (signed_decimal (to_z w32 (of_z w32 v.blocking))) (codes " maxrec ") (signed_decimal (to_z w32 (of_z w32 v.max_rec))) (codes " pad ") (pad_text v.has_pad v.t v.elems v.pad))
    ∙ (λ i. old ++ event_text (events.Var v.kind v.num v.name v.t v.elems v.vary v.dims v.varys v.sparse v.rle (blocking i) (max_rec i) v.has_pad v.pad))
    ∙ ap (λ e. old ++ event_text e) (sym v.is)
