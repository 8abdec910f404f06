-- The lines that tell of made code.
use Rattle.std.specs.Prelude.{ℕ, List, ◌++◌, codes}
use Rattle.std.specs.Fmt.{decimal}

-- of an analysis: how many transfers it makes, how many elements its table has, and the verdict on that
abbrev pub measure_text : ℕ → ℕ → List ℕ → List ℕ
measure_text transfers elements verdict =
    codes "transfers " ++ (decimal transfers ++ (codes "\nelements " ++ (decimal elements ++ (codes "\nverdict " ++ (verdict ++ codes "\n")))))

-- The summary: how many words the code has, the lines of its analysis, how many steps its run takes, and why that ends.
abbrev pub summary_text : ℕ → List ℕ → ℕ → List ℕ → List ℕ
summary_text words measured steps stop =
    codes "words " ++ (decimal words ++ (codes "\n" ++ (measured ++ (codes "steps " ++ (decimal steps ++ (codes "\nstop " ++ (stop ++ codes "\n")))))))
