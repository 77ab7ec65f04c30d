-- `touchcal::floats::to_f32` meets its contract. Assumes nothing.
use lib.Ieee.{of_bits}
use Rattle.touchcal.specs.Floats.{to_f32_of}
use Rattle.touchcal.proofs.floats.to_f32.Goals as goal

pub returns : goal.returns
unfolding of_bits to_f32_of
returns c =
    λ i. record {
      a = c.out.ensures i;
      b = c.out-2.ensures i;
      c = c.out-3.ensures i;
      d = c.out-4.ensures i;
      e = c.out-5.ensures i;
      f = c.out-6.ensures i;
    }
