-- The letters of the log, by their ASCII numbers.
use Rattle.std.specs.Prelude.{ℕ}

abbrev pub ascii_D : ℕ
ascii_D = 68

abbrev pub ascii_T : ℕ
ascii_T = 84

abbrev pub ascii_L : ℕ
ascii_L = 76

abbrev pub ascii_M : ℕ
ascii_M = 77

abbrev pub ascii_G : ℕ
ascii_G = 71

abbrev pub ascii_U : ℕ
ascii_U = 85

abbrev pub ascii_less : ℕ
ascii_less = 60

abbrev pub ascii_greater : ℕ
ascii_greater = 62

abbrev pub ascii_caret : ℕ
ascii_caret = 94

abbrev pub ascii_v : ℕ
ascii_v = 118

abbrev pub ascii_C : ℕ
ascii_C = 67

abbrev pub ascii_W : ℕ
ascii_W = 87

abbrev pub ascii_K : ℕ
ascii_K = 75

abbrev pub ascii_k : ℕ
ascii_k = 107

abbrev pub ascii_E : ℕ
ascii_E = 69

abbrev pub ascii_N : ℕ
ascii_N = 78

abbrev pub ascii_c : ℕ
ascii_c = 99
