-- The data set that is written out is one that a content may be.
use Rattle.std.proofs.Common.{arith, inr, refl}
use Rattle.std.proofs.lemmas.Int.{ints}
use Rattle.cdf_writer.specs.Fine.{Fine, FineAttribute, FineVariable}
use Rattle.cdf_writer_tests.specs.Example.{example, field, title, units}

fine_title : FineAttribute title
fine_title = record {
  named = refl;
  g_fine = ((omega arith, tt), (record { numbered = omega arith; some = omega arith; few = omega arith; whole = refl; short = omega arith }, tt));
  z_fine = (tt, tt);
}

fine_units : FineAttribute units
fine_units = record {
  named = refl;
  g_fine = (tt, tt);
  z_fine = ((omega arith, tt), (record { numbered = omega arith; some = omega arith; few = omega arith; whole = refl; short = omega arith }, tt));
}

fine_field : FineVariable field
fine_field = record {
  named = refl;
  some = omega arith;
  few = omega arith;
  single = refl;
  few_dims = omega arith;
  sizes = ((omega arith, omega arith), tt);
  one_each = refl;
  short = omega arith;
  max_fits = omega (arith, ints);
  extent_fits = omega arith;
  max_low = inr tt;
  blocking_fits = omega (arith, ints);
  padded = refl;
  rises = (omega arith, (omega arith, (omega arith, tt)));
  records = (record { numbered = omega arith; whole = refl }, (record { numbered = omega arith; whole = refl }, (record { numbered = omega arith; whole = refl }, tt)));
}

pub fine : Fine example
fine = record {
  head = record { encoded = refl; release_fits = omega (arith, ints); increment_fits = omega (arith, ints); few_dims = omega arith; sizes = tt };
  attributes = record { each = (fine_title, (fine_units, tt)); differ = (refl, (refl, tt)); few = omega arith };
  variables = record { r_fine = tt; z_fine = (fine_field, tt); r_dims = tt; differ = (refl, tt); r_few = omega arith; z_few = omega arith };
}
