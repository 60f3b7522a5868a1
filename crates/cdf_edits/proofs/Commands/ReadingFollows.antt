-- A good image is good by its shape, and a command that only reads leaves it.
use Rattle.cdf_edits.proofs.Common.{Act, AllKeep, Allowance, Allowances, Anything, ByStep, Command, Does, Follows, Go, Good, In, Keeps, List, Only, Owner, Reply, [], allowance, allowances, arith, content, good_by_its_shape, good_is_sound, inl, inr, map, only_reads, owned, owned_stand, refl, shape, step, true, ℕ, ◌∷◌, ◌≡◌}
use Rattle.cdf_model.specs.declared.command.Command.TheVariants as commands
use Rattle.cdf_edits.proofs.Space.ActsLeave.{no_acts}

-- a record keeps itself, whatever may change
keeps_itself : (b : List ℕ) (place : ℕ) (a : Allowance) → In place (shape b).records → Keeps b b place a
keeps_itself b place Anything i = tt
keeps_itself b place (Only fields) i = record { stands = i; size_is = refl; same = λ n lt out. refl }

all_keep : (b : List ℕ) (may : Allowances) (acts : List Act) (list : List (ℕ × Owner)) → ((m : ℕ) → In m (map (λ (p : ℕ × Owner). p.0) list) → In m (shape b).records) → AllKeep b b may acts list
all_keep b may acts [] h = tt
all_keep b may acts ((place, owner) ∷ more) h = (keeps_itself b place (allowance b (shape b) may acts place owner) (h place (inl refl)), all_keep b may acts more (λ m i. h m (inr i)))

-- ---- what a command that only reads leaves

does_nothing : (b : List ℕ) (c : Command) → only_reads c ≡ true → Does b c b []
does_nothing b commands.Info e = refl
does_nothing b commands.List e = refl
does_nothing b (commands.GetEntry attr kind num) e = refl
does_nothing b (commands.GetRec var rec) e = refl
does_nothing b (commands.GetVal var rec index) e = refl
does_nothing b commands.Dump e = refl
does_nothing b (commands.Report tap) e = refl
does_nothing b c e = absurd cc

-- where every byte stays, and that is what the command is to do
pub staying_follows : (b : List ℕ) (c : Command) (reply : Reply) → step (content b) c ≡ ByStep (Go (content b) reply) → Good b → Does b c b [] → Follows b c b
staying_follows b c reply goes good does = record {
  reply = reply;
  goes = goes;
  good = good;
  longer = omega arith;
  within = omega arith;
  reads = λ e. refl;
  acts = [];
  takes_within = omega arith;
  acts_follow = no_acts b b (good_is_sound b good).has_shape (record { records = refl; list = refl; long = refl; size = λ m i. refl; type = λ m i. refl; back = λ m i. refl });
  keeps = all_keep b (allowances b (content b) (shape b) c) [] (owned b (shape b)) (owned_stand b (shape b) (good_by_its_shape b good));
  does = does;
}

pub reading_follows : (b : List ℕ) (c : Command) (reply : Reply) → only_reads c ≡ true → step (content b) c ≡ ByStep (Go (content b) reply) → Good b → Follows b c b
reading_follows b c reply reads goes good = staying_follows b c reply goes good (does_nothing b c reads)
