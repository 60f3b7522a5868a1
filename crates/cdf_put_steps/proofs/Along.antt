-- What holds at the start of a put, and is kept by each step, holds as far as it went.
use Rattle.std.specs.Prelude.{false}
use Rattle.std.proofs.lemmas.List.{flat_map_more}
use Rattle.cdf_edits.proofs.Common.{Act, Good, Kind, List, VariableShape, [], ap, append-nil, append_assoc, arith, flat_map, length, refl, subst, sym, variable_of, ℕ, ◌++◌, ◌∙◌, ◌∷◌, ◌≡◌, ◌≤◌}
use Rattle.cdf_edits.proofs.Edits.Common.{StandsAmong}
use Rattle.cdf_edits.specs.Commands.PutSteps.{Begins, Put, PutsLeaf, PutsLeaves, Stage}
use Rattle.cdf_edits.specs.Index.Blocks.{cuts_before_put}
use Rattle.cdf_puts.specs.Going.{GoesOn, found_in}
use Rattle.cdf_put_steps.specs.Along.{GoAlong, LeavesAlong, LeavesPut, PutsAlong, at_start, put_in}

-- ---- how a put begins, and goes one leaf further

pub starts_along : {b : List ℕ} {kind : Kind} {before : List VariableShape} {own : VariableShape} {after : List VariableShape} (n : ℕ) (raw : List ℕ) → Good b → StandsAmong b kind before own after → cuts_before_put (variable_of b own) n ≡ false → PutsAlong b kind before own after n raw (at_start b (put_in b kind before own n raw) own) []
starts_along {b = b} {kind = kind} {before = before} {own = own} n raw good at uncut =
    let first = at_start b (put_in b kind before own n raw) own in
    record {
      good = good;
      among = at;
      uncut = uncut;
      puts = record { start = first; stages = []; begins = subst (Begins (found_in b kind before own) first first) (sym uncut) refl; puts = refl; acts_are = refl };
      go = tt;
    }

along_more : (kind : Kind) (before after : List VariableShape) (p : Put) (from : Stage) (stages : List Stage) (mid to : Stage) → PutsLeaves p from stages mid → GoAlong kind before after from stages → GoesOn mid.image to.image kind before mid.own to.own after to.acts → GoAlong kind before after from (stages ++ to ∷ [])
along_more kind before after p from [] mid to e go one = (subst (λ (s : Stage). GoesOn s.image to.image kind before s.own to.own after to.acts) (sym e) one, tt)
along_more kind before after p from (next ∷ more) mid to h go one = (go.0, along_more kind before after p next more mid to h.1 go.1 one)

leaves_more : (p : Put) (from : Stage) (stages : List Stage) (mid to : Stage) → PutsLeaves p from stages mid → PutsLeaf p mid to → PutsLeaves p from (stages ++ to ∷ []) to
leaves_more p from [] mid to e l = (subst (λ (s : Stage). PutsLeaf p s to) (sym e) l, refl)
leaves_more p from (next ∷ more) mid to h l = (h.0, leaves_more p next more mid to h.1 l)

pub goes_one_along : {b : List ℕ} {kind : Kind} {before : List VariableShape} {own : VariableShape} {after : List VariableShape} {n : ℕ} {raw : List ℕ} {mid to : Stage} {acts : List Act} → PutsAlong b kind before own after n raw mid acts → PutsLeaf (put_in b kind before own n raw) mid to → GoesOn mid.image to.image kind before mid.own to.own after to.acts
    → PutsAlong b kind before own after n raw to (acts ++ to.acts)
goes_one_along {b = b} {kind = kind} {before = before} {own = own} {after = after} {n = n} {raw = raw} {mid = mid} {to = to} x leaf one =
    let p = put_in b kind before own n raw in
    let so = x.puts in
    record {
      good = x.good;
      among = x.among;
      uncut = x.uncut;
      puts = record {
        start = so.start;
        stages = so.stages ++ to ∷ [];
        begins = so.begins;
        puts = leaves_more p so.start so.stages mid to so.puts leaf;
        acts_are = ap (λ (acts : List Act). acts ++ to.acts) so.acts_are ∙ flat_map_more (λ (stage : Stage). stage.acts) so.start.acts so.stages to;
      };
      go = along_more kind before after p so.start so.stages mid to so.puts x.go one;
    }

-- ---- the leaves alone, from any image on

pub leaves_start : (p : Put) (kind : Kind) (before after : List VariableShape) (from : Stage) → LeavesAlong p kind before after from from []
leaves_start p kind before after from = record { stages = []; puts = refl; acts_are = refl; go = tt }

pub leaves_one_along : {p : Put} {kind : Kind} {before after : List VariableShape} {from mid to : Stage} {acts : List Act} → LeavesAlong p kind before after from mid acts → PutsLeaf p mid to → GoesOn mid.image to.image kind before mid.own to.own after to.acts → LeavesAlong p kind before after from to (acts ++ to.acts)
leaves_one_along {p = p} {kind = kind} {before = before} {after = after} {from = from} {mid = mid} {to = to} x leaf one = record {
  stages = x.stages ++ to ∷ [];
  puts = leaves_more p from x.stages mid to x.puts leaf;
  acts_are = ap (λ (acts : List Act). acts ++ to.acts) x.acts_are ∙ flat_map_more (λ (stage : Stage). stage.acts) [] x.stages to;
  go = along_more kind before after p from x.stages mid to x.puts x.go one;
}

-- where nothing is cut first they are all of the put
pub leaves_are_put : {b : List ℕ} {kind : Kind} {before : List VariableShape} {own : VariableShape} {after : List VariableShape} {n : ℕ} {raw : List ℕ} {to : Stage} {acts : List Act} → Good b → StandsAmong b kind before own after → cuts_before_put (variable_of b own) n ≡ false → LeavesAlong (put_in b kind before own n raw) kind before after (at_start b (put_in b kind before own n raw) own) to acts
    → PutsAlong b kind before own after n raw to acts
leaves_are_put {b = b} {kind = kind} {before = before} {own = own} {n = n} {raw = raw} good at uncut x =
    let first = at_start b (put_in b kind before own n raw) own in
    record {
      good = good;
      among = at;
      uncut = uncut;
      puts = record { start = first; stages = x.stages; begins = subst (Begins (found_in b kind before own) first first) (sym uncut) refl; puts = x.puts; acts_are = x.acts_are };
      go = x.go;
    }

-- and the other way round
pub put_leaves : {b : List ℕ} {kind : Kind} {before : List VariableShape} {own : VariableShape} {after : List VariableShape} {n : ℕ} {raw : List ℕ} {to : Stage} {acts : List Act} → PutsAlong b kind before own after n raw to acts → LeavesPut b kind before own after n raw to acts
put_leaves {b = b} {kind = kind} {before = before} {own = own} {after = after} {n = n} {raw = raw} {to = to} x =
    let p = put_in b kind before own n raw in
    let so = x.puts in
    let same : at_start b p own ≡ so.start = subst (Begins p.found (at_start b p own) so.start) x.uncut so.begins in
    let none : so.start.acts ≡ [] = ap (λ (s : Stage). s.acts) (sym same) in
    record {
      good = x.good;
      among = x.among;
      along = record {
        stages = so.stages;
        puts = subst (λ (s : Stage). PutsLeaves p s so.stages to) (sym same) so.puts;
        acts_are = so.acts_are ∙ ap (λ (first : List Act). first ++ flat_map (λ (stage : Stage). stage.acts) so.stages) none;
        go = subst (λ (s : Stage). GoAlong kind before after s so.stages) (sym same) x.go;
      };
    }

-- ---- by its steps

module _ (b : List ℕ) (kind : Kind) (before : List VariableShape) (own : VariableShape) (after : List VariableShape) (n : ℕ) (raw : List ℕ) (P : Stage → List Act → Type 0) (step : (from to : Stage) (acts : List Act) → P from acts → PutsLeaf (put_in b kind before own n raw) from to → GoesOn from.image to.image kind before from.own to.own after to.acts → P to (acts ++ to.acts)) where
  by_stages : (from : Stage) (stages : List Stage) (to : Stage) (acts : List Act) → P from acts → PutsLeaves (put_in b kind before own n raw) from stages to → GoAlong kind before after from stages → P to (acts ++ flat_map (λ (stage : Stage). stage.acts) stages)
  by_stages from [] to acts x e go = subst (λ (s : Stage). P s (acts ++ [])) e (subst (P from) (sym (append-nil acts)) x)
  by_stages from (next ∷ more) to acts x h go = subst (P to) (append_assoc acts next.acts (flat_map (λ (stage : Stage). stage.acts) more)) (by_stages next more to (acts ++ next.acts) (step from next acts x h.0 go.0) h.1 go.1)

  pub by_along : {to : Stage} {acts : List Act} → P (at_start b (put_in b kind before own n raw) own) [] → LeavesPut b kind before own after n raw to acts → P to acts
  by_along {to = to} x put =
      let leaves = put.along in
      subst (P to) (sym leaves.acts_are) (by_stages (at_start b (put_in b kind before own n raw) own) leaves.stages to [] x leaves.puts leaves.go)

-- an image on the way is no shorter than the first
pub longer_along : {b : List ℕ} {kind : Kind} {before : List VariableShape} {own : VariableShape} {after : List VariableShape} {n : ℕ} {raw : List ℕ} {to : Stage} {acts : List Act} → LeavesPut b kind before own after n raw to acts → length b ≤ length to.image
longer_along {b = b} {kind = kind} {before = before} {own = own} {after = after} {n = n} {raw = raw} x =
    by_along b kind before own after n raw (λ (stage : Stage) (acts : List Act). length b ≤ length stage.image) (λ from to acts le leaf one. omega (arith, le, one.file.longer)) (omega arith) x
