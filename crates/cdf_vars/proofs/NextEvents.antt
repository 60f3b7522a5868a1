-- The next record of a variable, as an event, and what is kept of those that were read last.
use Rattle.cdf_vars.proofs.Common.{Form, List, None, Option, Some, Variable, ap, subst, sym, variable_at, ℕ, ◌<◌, ◌∙◌, ◌≡◌}
use Rattle.cdf_model.specs.declared.event.Event.{Event}
use Rattle.cdf_model.specs.declared.event.Event.TheVariants as events
use Rattle.cdf_var_records.specs.Next.{NextIs}
use Rattle.cdf_var_records.specs.declared.next.RecordReader.{RecordReader}
use Rattle.cdf_var_records.specs.declared.next.Stored.{Stored}
use Rattle.cdf_vars.specs.declared.vars.VarId.{VarId}
use Rattle.cdf_var_records.specs.Unpacked.{IsUnpacked}
use Rattle.cdf_vars.specs.Events.{IsNextOf, KnowsView, ReadsFrom, ShowsNext, variable_of_id}
use Rattle.cdf_vars.specs.declared.record_view.LastRead.{LastRead}
use Rattle.cdf_vars.specs.declared.record_view.RecordView.{RecordView}
use Rattle.std.specs.Prelude.{IfSome}

-- where the reader was taken out
pub without_reader : (b : List ℕ) (old new : RecordView) → KnowsView b old → new.last ≡ None → new.unpacked ≡ old.unpacked → KnowsView b new
without_reader b old new known gone same = record {
  last = subst (λ (o : Option LastRead). IfSome o (λ l. ReadsFrom b l.id l.reader)) (sym gone) tt;
  unpacked = subst (IsUnpacked b) (sym same) known.unpacked;
}

module _ {b : List ℕ} {id : VarId} {reader : RecordReader} (r : ReadsFrom b id reader) {late : List ℕ} (same : late ≡ b) (from : ℕ) where
  abbrev own : Variable
  own = variable_at b reader.form.place.vdr

  here : (o : Option Stored) → NextIs from (variable_at late reader.form.place.vdr).recs o → NextIs from own.recs o
  here o = subst (λ (x : List ℕ). NextIs from (variable_at x reader.form.place.vdr).recs o) same

  pub no_next : NextIs from (variable_at late reader.form.place.vdr).recs None → IsNextOf (variable_of_id b id) from None
  no_next is = subst (λ (v : Option Variable). IsNextOf v from None) (sym r.of) (here None is)

  pub shows_next : (form : Form) → form ≡ reader.form → (stored : Stored) → NextIs from (variable_at late reader.form.place.vdr).recs (Some stored) → stored.num < 0xffffffff → (event : Event)
      → event ≡ events.Rec stored.num form.shape.t form.shape.elems stored.bytes.items → IsNextOf (variable_of_id b id) from (Some event)
  shows_next form kept stored is few event event_is =
      let f = r.reads.is_form in
      let t = ap (λ (x : Form). x.shape.t) kept ∙ f.t_is ∙ f.place.t_is in
      let elems = ap (λ (x : Form). x.shape.elems) kept ∙ f.elems_are ∙ f.place.elems_are in
      let shows : ShowsNext own from event = record {
        num = stored.num;
        bytes = stored.bytes.items;
        left = here (Some stored) is;
        event_is = event_is ∙ (λ i. events.Rec stored.num (t i) (elems i) stored.bytes.items);
        few = few;
      } in
      subst (λ (v : Option Variable). IsNextOf v from (Some event)) (sym r.of) shows
