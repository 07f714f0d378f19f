-- The thirty rows of FCNNUT, 1984 to 2013. Derived from that IERS routine; not IERS Conventions software (NOTICE, docs/DIFFERENCES.md).
use Rattle.std.specs.Prelude.{List, [], ◌∷◌}
use Rattle.algebra.specs.Integers.{+◌, −◌}
use Rattle.rows.specs.declared.Row.{Row}
use Rattle.rows.specs.Table.{row}

--      date  XC       XS       uncertainty
unfoldable pub built_in : List Row
built_in =
    row 45700 (+ 455) (− 3658) 1972
    ∷ row 46066 (− 14182) (− 10535) 1112
    ∷ row 46431 (− 24656) (− 17021) 947
    ∷ row 46796 (− 28189) (− 15924) 865
    ∷ row 47161 (− 25505) (− 4358) 811
    ∷ row 47527 (− 21046) (− 8856) 731
    ∷ row 47892 (− 18779) (− 5735) 641
    ∷ row 48257 (− 16301) (+ 2626) 552
    ∷ row 48622 (− 14553) (+ 4465) 480
    ∷ row 48988 (− 14512) (+ 5149) 595
    ∷ row 49353 (− 10993) (+ 1687) 945
    ∷ row 49718 (− 8730) (+ 536) 825
    ∷ row 50083 (− 9061) (+ 152) 767
    ∷ row 50449 (− 9473) (+ 3535) 440
    ∷ row 50814 (− 6752) (+ 2757) 340
    ∷ row 51179 (− 4411) (− 1431) 345
    ∷ row 51544 (+ 521) (− 7487) 326
    ∷ row 51910 (+ 7037) (− 12966) 286
    ∷ row 52275 (+ 8647) (− 12784) 275
    ∷ row 52640 (+ 11044) (− 4273) 259
    ∷ row 53005 (+ 11478) (− 13) 253
    ∷ row 53371 (+ 13296) (− 478) 272
    ∷ row 53736 (+ 15736) (+ 2863) 219
    ∷ row 54101 (+ 16040) (+ 5887) 187
    ∷ row 54466 (+ 15676) (+ 10124) 174
    ∷ row 54832 (+ 14299) (+ 14301) 189
    ∷ row 55197 (+ 3370) (+ 18446) 195
    ∷ row 55562 (+ 76) (+ 25370) 114
    ∷ row 55927 (+ 2547) (+ 27166) 107
    ∷ row 56293 (+ 11342) (+ 25650) 186
    ∷ []
