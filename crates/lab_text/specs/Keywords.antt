-- The keywords and names of the lab's text, in ASCII.
use Rattle.std.specs.Prelude.{List, [], ◌∷◌, ℕ}

-- BEGIN_DATA_FORMAT
unfoldable pub begin_data_format : List ℕ
begin_data_format = 66 ∷ 69 ∷ 71 ∷ 73 ∷ 78 ∷ 95 ∷ 68 ∷ 65 ∷ 84 ∷ 65 ∷ 95 ∷ 70 ∷ 79 ∷ 82 ∷ 77 ∷ 65 ∷ 84 ∷ []

-- END_DATA_FORMAT
unfoldable pub end_data_format : List ℕ
end_data_format = 69 ∷ 78 ∷ 68 ∷ 95 ∷ 68 ∷ 65 ∷ 84 ∷ 65 ∷ 95 ∷ 70 ∷ 79 ∷ 82 ∷ 77 ∷ 65 ∷ 84 ∷ []

-- NUMBER_OF_SETS
unfoldable pub number_of_sets : List ℕ
number_of_sets = 78 ∷ 85 ∷ 77 ∷ 66 ∷ 69 ∷ 82 ∷ 95 ∷ 79 ∷ 70 ∷ 95 ∷ 83 ∷ 69 ∷ 84 ∷ 83 ∷ []

-- BEGIN_DATA
unfoldable pub begin_data : List ℕ
begin_data = 66 ∷ 69 ∷ 71 ∷ 73 ∷ 78 ∷ 95 ∷ 68 ∷ 65 ∷ 84 ∷ 65 ∷ []

-- END_DATA
unfoldable pub end_data : List ℕ
end_data = 69 ∷ 78 ∷ 68 ∷ 95 ∷ 68 ∷ 65 ∷ 84 ∷ 65 ∷ []

-- SAMPLE_ID
unfoldable pub sample_id : List ℕ
sample_id = 83 ∷ 65 ∷ 77 ∷ 80 ∷ 76 ∷ 69 ∷ 95 ∷ 73 ∷ 68 ∷ []

-- LAB_L
unfoldable pub lab_l : List ℕ
lab_l = 76 ∷ 65 ∷ 66 ∷ 95 ∷ 76 ∷ []

-- LAB_A
unfoldable pub lab_a : List ℕ
lab_a = 76 ∷ 65 ∷ 66 ∷ 95 ∷ 65 ∷ []

-- LAB_B
unfoldable pub lab_b : List ℕ
lab_b = 76 ∷ 65 ∷ 66 ∷ 95 ∷ 66 ∷ []
