-- Values of the Gaussian that antt computes from the definition. Assumes nothing.
use mathlib.Core.Path.{◌≡◌, refl}
use Rattle.gaussian.specs.Gaussian.{terms, exp_series, gaussian_entry, gaussian_between, gaussian_of}

pub at_zero : gaussian_of 0 ≡ 1000000000
unfolding gaussian_of gaussian_between gaussian_entry exp_series terms
at_zero = refl

-- 25 degrees: 1 / e
pub at-25-degrees : gaussian_of 25000000 ≡ 367879441
unfolding gaussian_of gaussian_between gaussian_entry exp_series terms
at-25-degrees = refl

-- 25.05 degrees, half-way between two entries
pub between-entries : gaussian_of 25050000 ≡ 366410874
unfolding gaussian_of gaussian_between gaussian_entry exp_series terms
between-entries = refl

pub at-120-degrees : gaussian_of 120000000 ≡ 0
unfolding gaussian_of
at-120-degrees = refl
