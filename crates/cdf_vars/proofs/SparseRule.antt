-- What `set-sparse` answers, of a variable whose descriptor was found: SRecords was written once its blocks were gone, and the last image follows the command.
use Rattle.cdf_vars.proofs.Common.{Answers, DataSet, Done, Each, Good, InUse, Kind, Known, Knows, Leaf, LiesIn, List, Plain, Refused, Shape, VarId, Variable, ap, arith, byte, cast_signed, cast_unsigned, content, extent, false, field_reads, gone, high, image_limit, inr, length, length-with_field, long, map, max_rec_at, ne_eqb, number, other_bytes, pos, refl, refused, shapes_of, subst, sym, variable_of, variables_of, vdrs, with_field, ℕ, ℤ, ◌==◌, ◌∙◌, ◌≡◌, ◌≤◌}
use Rattle.std.proofs.Common.{w32}
use Rattle.cdf_cuts.specs.Past.{EndCut, PlainOrUncut, cut_off}
use Rattle.cdf_edits.proofs.Edits.LeafPieces.{each_of}
use Rattle.cdf_format.specs.Records.{vdr_s_records}
use Rattle.cdf_model.specs.declared.command.Command.TheVariants.{SetSparse}
use Rattle.cdf_model.specs.declared.kinds.Sparse.{Sparse}
use Rattle.cdf_model.specs.declared.kinds.Sparse.TheVariants.{NoRule, Pad, Previous}
use Rattle.cdf_sparse.proofs.CutKept.{none_left}
use Rattle.cdf_sparse.proofs.SetRuleContent as of_content
use Rattle.cdf_sparse.proofs.SetRuleFollows.{follows_rule, set_sparse_goes}
use Rattle.cdf_sparse.specs.SetRule.{RuleWritten, SetRule, rule_code}
use Rattle.cdf_vars.proofs.PutRead.{names_set, places_on}
use Rattle.cdf_vars.proofs.RuledGood.{ruled_good}
use Rattle.cdf_vars.proofs.VariableFound.{Parts, item_found, knows_now}

-- a cut of all records leaves no block in part
pub none_in_part : (leaves : List Leaf) → Each (PlainOrUncut 0) leaves
none_in_part leaves = each_of (PlainOrUncut 0) leaves (λ l i. inr (inr (omega arith)))

-- each code of a rule is one that SRecords may have
small_code : (rule : Sparse) → rule_code rule ≤ 2
small_code NoRule = omega arith
small_code Pad = omega arith
small_code Previous = omega arith

-- as it is passed on as 4 bytes
passed_code : {code : ℤ} (rule : Sparse) → code ≡ pos (rule_code rule) → cast_unsigned w32 (cast_signed w32 (cast_unsigned w32 code)) ≡ rule_code rule
passed_code NoRule is = ap (λ (z : ℤ). cast_unsigned w32 (cast_signed w32 (cast_unsigned w32 z))) is
passed_code Pad is = ap (λ (z : ℤ). cast_unsigned w32 (cast_signed w32 (cast_unsigned w32 z))) is
passed_code Previous is = ap (λ (z : ℤ). cast_unsigned w32 (cast_signed w32 (cast_unsigned w32 z))) is

module _ {b : List ℕ} {name : List ℕ} {known : Known} {id : VarId} (good : Good b) (knows : Knows b known) (p : Parts b known name id) {vdr : ℕ} (is : p.own.vdr ≡ vdr) where
  abbrev v : Variable
  v = variable_of b p.own

  -- it has records
  pub in_use : {count : ℕ} → count ≡ extent (max_rec_at b vdr) → (count ≡ 0 → ⊥) → (rule : Sparse) (limit : ℕ) → Answers limit b (SetSparse name rule) (Refused InUse) b
  in_use {count} count_is some rule limit =
      let here : (extent v.max_rec == 0) ≡ false = ap (λ (n : ℕ). extent (max_rec_at b n) == 0) is ∙ ap (λ (n : ℕ). n == 0) (sym count_is) ∙ ne_eqb count 0 some in
      refused limit b (SetSparse name rule) InUse (rw (p.named, here) refl)

  -- it has none, and its blocks went
  module _ (none : extent (max_rec_at b vdr) ≡ 0) {mid : List ℕ} (cut : EndCut b mid id.kind p.before p.own (cut_off p.own 0) p.after 0) where
    abbrev mid_good : Good mid
    mid_good = cut.goes_on.good

    none_stored : extent (max_rec_at b p.own.vdr) ≡ 0
    none_stored = ap (λ (n : ℕ). extent (max_rec_at b n)) is ∙ none

    own_lies : LiesIn mid p.own.vdr vdr_s_records
    own_lies = let l = long mid_good cut.goes_on.among in let h = high mid_good cut.goes_on.among in omega arith

    pub code_lies : LiesIn mid vdr vdr_s_records
    code_lies = subst (λ (n : ℕ). LiesIn mid n vdr_s_records) is own_lies

    -- and then SRecords is written
    module _ (rule : Sparse) {now : List ℕ} {code : ℤ} (code_is : code ≡ pos (rule_code rule)) (there : now ≡ with_field mid vdr vdr_s_records (cast_unsigned w32 (cast_signed w32 (cast_unsigned w32 code)))) (short : length b ≤ image_limit) where
      there_own : now ≡ with_field mid p.own.vdr vdr_s_records (rule_code rule)
      there_own = there ∙ (let at = sym is in let passed = passed_code rule code_is in λ i. with_field mid (at i) vdr_s_records (passed i))

      now_long : length now ≡ length mid
      now_long = ap length there_own ∙ length-with_field mid p.own.vdr vdr_s_records (rule_code rule) own_lies

      small : rule_code rule ≤ 2
      small = small_code rule

      written : RuleWritten mid now p.own.vdr (rule_code rule)
      written = record {
        changed = record { longer = omega (arith, now_long); same = λ i lt out. ap (λ (x : List ℕ). byte x i) there_own ∙ other_bytes mid p.own.vdr vdr_s_records (rule_code rule) i own_lies out.0 };
        as_long = now_long;
        code_is = ap (λ (x : List ℕ). number x p.own.vdr vdr_s_records) there_own ∙ field_reads mid p.own.vdr vdr_s_records (rule_code rule) own_lies (omega (arith, small));
      }

      set : SetRule b mid now id.kind p.before p.own p.after rule
      set = record {
        good = good;
        among = p.at;
        none_stored = none_stored;
        cut = cut;
        written = written;
        still_good = ruled_good mid_good cut.goes_on.among written (none_left good p.at cut) small (omega (arith, cut.long, short));
      }

      pub rule_done : (limit : ℕ) → length b ≤ limit → Answers limit b (SetSparse name rule) (Done Plain) now
      rule_done limit fits =
          let goes = set_sparse_goes set name p.named in
          gone limit b (SetSparse name rule) _ Plain now goes (omega (arith, fits)) (follows_rule set name p.named goes)

      pub rule_known : Knows now known
      rule_known = knows_now knows
          (λ (k : Kind). names_set (content b) id.kind (length p.before) (record v { sparse = rule }) v (item_found (content b) name _ p.named) refl k ∙ ap (λ (d : DataSet). map (λ (w : Variable). w.name) (variables_of d k)) (sym (of_content.content_ruled set)))
          (λ (k : Kind). places_on id.kind p.at.was cut.goes_on k ∙ ap (λ (s : Shape). vdrs (shapes_of s k)) (sym (of_content.rule_lies set).0))
