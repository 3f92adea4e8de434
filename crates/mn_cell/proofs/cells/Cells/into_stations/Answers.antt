use Rattle.mn_cell.proofs.cells.Cells.into_stations.Goals as goal
use Rattle.mn_cell.proofs.Filled.{each_filled, filled_again, fits, follows, grows, none_yet, unnumbered}
use Rattle.std.proofs.Common.{◌≡◌, ◌≤◌, is_some, vec_len, vec_capacity, arith, lit<, ◌∙◌, min}

pub put_back-requires : goal.put_back-requires
put_back-requires g c =
    let count = c.requires.filled.0 in
    let is = each_filled count (is_some c.args.self.c0) (is_some c.args.self.c1) (is_some c.args.self.c2) (is_some c.args.self.c3) (is_some c.args.self.c4) (is_some c.args.self.c5) (is_some c.args.self.c6) (is_some c.args.self.c7) c.requires.filled.2 in
    let n0 : vec_len c.args.stations.now ≡ min 0 count = none_yet c.args.stations.now.items (vec_len c.args.stations.now) count c.requires.none (omega arith) in
    let room : count ≤ vec_capacity c.args.stations.now = omega (arith, c.requires.filled.1) in
    (lit< tt, (fits 0 count (vec_len c.args.stations.now) (vec_capacity c.args.stations.now) (is_some c.args.self.c0) n0 is.e0 room, (unnumbered c.args.stations.now.items c.requires.none, follows 0 count (vec_len c.args.stations.now) (is_some c.args.self.c0) n0 is.e0)))

pub put_back-requires-2 : goal.put_back-requires-2
put_back-requires-2 g c =
    let count = c.requires.filled.0 in
    let is = each_filled count (is_some c.args.self.c0) (is_some c.args.self.c1) (is_some c.args.self.c2) (is_some c.args.self.c3) (is_some c.args.self.c4) (is_some c.args.self.c5) (is_some c.args.self.c6) (is_some c.args.self.c7) c.requires.filled.2 in
    let n0 : vec_len c.args.stations.now ≡ min 0 count = none_yet c.args.stations.now.items (vec_len c.args.stations.now) count c.requires.none (omega arith) in
    let n1 = grows 0 count (vec_len c.args.stations.now) (vec_len c.put_back.new.stations) (is_some c.args.self.c0) n0 is.e0 c.put_back.ensures.len in
    let room : count ≤ vec_capacity c.put_back.new.stations = omega (arith, c.requires.filled.1) in
    (lit< tt, (fits 1 count (vec_len c.put_back.new.stations) (vec_capacity c.put_back.new.stations) (is_some c.args.self.c1) n1 is.e1 room, (c.put_back.ensures.numbers, follows 1 count (vec_len c.put_back.new.stations) (is_some c.args.self.c1) n1 is.e1)))

pub put_back-requires-3 : goal.put_back-requires-3
put_back-requires-3 g c =
    let count = c.requires.filled.0 in
    let is = each_filled count (is_some c.args.self.c0) (is_some c.args.self.c1) (is_some c.args.self.c2) (is_some c.args.self.c3) (is_some c.args.self.c4) (is_some c.args.self.c5) (is_some c.args.self.c6) (is_some c.args.self.c7) c.requires.filled.2 in
    let n0 : vec_len c.args.stations.now ≡ min 0 count = none_yet c.args.stations.now.items (vec_len c.args.stations.now) count c.requires.none (omega arith) in
    let n1 = grows 0 count (vec_len c.args.stations.now) (vec_len c.put_back.new.stations) (is_some c.args.self.c0) n0 is.e0 c.put_back.ensures.len in
    let n2 = grows 1 count (vec_len c.put_back.new.stations) (vec_len c.put_back-2.new.stations) (is_some c.args.self.c1) n1 is.e1 c.put_back-2.ensures.len in
    let room : count ≤ vec_capacity c.put_back-2.new.stations = omega (arith, c.requires.filled.1) in
    (lit< tt, (fits 2 count (vec_len c.put_back-2.new.stations) (vec_capacity c.put_back-2.new.stations) (is_some c.args.self.c2) n2 is.e2 room, (c.put_back-2.ensures.numbers, follows 2 count (vec_len c.put_back-2.new.stations) (is_some c.args.self.c2) n2 is.e2)))

pub put_back-requires-4 : goal.put_back-requires-4
put_back-requires-4 g c =
    let count = c.requires.filled.0 in
    let is = each_filled count (is_some c.args.self.c0) (is_some c.args.self.c1) (is_some c.args.self.c2) (is_some c.args.self.c3) (is_some c.args.self.c4) (is_some c.args.self.c5) (is_some c.args.self.c6) (is_some c.args.self.c7) c.requires.filled.2 in
    let n0 : vec_len c.args.stations.now ≡ min 0 count = none_yet c.args.stations.now.items (vec_len c.args.stations.now) count c.requires.none (omega arith) in
    let n1 = grows 0 count (vec_len c.args.stations.now) (vec_len c.put_back.new.stations) (is_some c.args.self.c0) n0 is.e0 c.put_back.ensures.len in
    let n2 = grows 1 count (vec_len c.put_back.new.stations) (vec_len c.put_back-2.new.stations) (is_some c.args.self.c1) n1 is.e1 c.put_back-2.ensures.len in
    let n3 = grows 2 count (vec_len c.put_back-2.new.stations) (vec_len c.put_back-3.new.stations) (is_some c.args.self.c2) n2 is.e2 c.put_back-3.ensures.len in
    let room : count ≤ vec_capacity c.put_back-3.new.stations = omega (arith, c.requires.filled.1) in
    (lit< tt, (fits 3 count (vec_len c.put_back-3.new.stations) (vec_capacity c.put_back-3.new.stations) (is_some c.args.self.c3) n3 is.e3 room, (c.put_back-3.ensures.numbers, follows 3 count (vec_len c.put_back-3.new.stations) (is_some c.args.self.c3) n3 is.e3)))

pub put_back-requires-5 : goal.put_back-requires-5
put_back-requires-5 g c =
    let count = c.requires.filled.0 in
    let is = each_filled count (is_some c.args.self.c0) (is_some c.args.self.c1) (is_some c.args.self.c2) (is_some c.args.self.c3) (is_some c.args.self.c4) (is_some c.args.self.c5) (is_some c.args.self.c6) (is_some c.args.self.c7) c.requires.filled.2 in
    let n0 : vec_len c.args.stations.now ≡ min 0 count = none_yet c.args.stations.now.items (vec_len c.args.stations.now) count c.requires.none (omega arith) in
    let n1 = grows 0 count (vec_len c.args.stations.now) (vec_len c.put_back.new.stations) (is_some c.args.self.c0) n0 is.e0 c.put_back.ensures.len in
    let n2 = grows 1 count (vec_len c.put_back.new.stations) (vec_len c.put_back-2.new.stations) (is_some c.args.self.c1) n1 is.e1 c.put_back-2.ensures.len in
    let n3 = grows 2 count (vec_len c.put_back-2.new.stations) (vec_len c.put_back-3.new.stations) (is_some c.args.self.c2) n2 is.e2 c.put_back-3.ensures.len in
    let n4 = grows 3 count (vec_len c.put_back-3.new.stations) (vec_len c.put_back-4.new.stations) (is_some c.args.self.c3) n3 is.e3 c.put_back-4.ensures.len in
    let room : count ≤ vec_capacity c.put_back-4.new.stations = omega (arith, c.requires.filled.1) in
    (lit< tt, (fits 4 count (vec_len c.put_back-4.new.stations) (vec_capacity c.put_back-4.new.stations) (is_some c.args.self.c4) n4 is.e4 room, (c.put_back-4.ensures.numbers, follows 4 count (vec_len c.put_back-4.new.stations) (is_some c.args.self.c4) n4 is.e4)))

pub put_back-requires-6 : goal.put_back-requires-6
put_back-requires-6 g c =
    let count = c.requires.filled.0 in
    let is = each_filled count (is_some c.args.self.c0) (is_some c.args.self.c1) (is_some c.args.self.c2) (is_some c.args.self.c3) (is_some c.args.self.c4) (is_some c.args.self.c5) (is_some c.args.self.c6) (is_some c.args.self.c7) c.requires.filled.2 in
    let n0 : vec_len c.args.stations.now ≡ min 0 count = none_yet c.args.stations.now.items (vec_len c.args.stations.now) count c.requires.none (omega arith) in
    let n1 = grows 0 count (vec_len c.args.stations.now) (vec_len c.put_back.new.stations) (is_some c.args.self.c0) n0 is.e0 c.put_back.ensures.len in
    let n2 = grows 1 count (vec_len c.put_back.new.stations) (vec_len c.put_back-2.new.stations) (is_some c.args.self.c1) n1 is.e1 c.put_back-2.ensures.len in
    let n3 = grows 2 count (vec_len c.put_back-2.new.stations) (vec_len c.put_back-3.new.stations) (is_some c.args.self.c2) n2 is.e2 c.put_back-3.ensures.len in
    let n4 = grows 3 count (vec_len c.put_back-3.new.stations) (vec_len c.put_back-4.new.stations) (is_some c.args.self.c3) n3 is.e3 c.put_back-4.ensures.len in
    let n5 = grows 4 count (vec_len c.put_back-4.new.stations) (vec_len c.put_back-5.new.stations) (is_some c.args.self.c4) n4 is.e4 c.put_back-5.ensures.len in
    let room : count ≤ vec_capacity c.put_back-5.new.stations = omega (arith, c.requires.filled.1) in
    (lit< tt, (fits 5 count (vec_len c.put_back-5.new.stations) (vec_capacity c.put_back-5.new.stations) (is_some c.args.self.c5) n5 is.e5 room, (c.put_back-5.ensures.numbers, follows 5 count (vec_len c.put_back-5.new.stations) (is_some c.args.self.c5) n5 is.e5)))

pub put_back-requires-7 : goal.put_back-requires-7
put_back-requires-7 g c =
    let count = c.requires.filled.0 in
    let is = each_filled count (is_some c.args.self.c0) (is_some c.args.self.c1) (is_some c.args.self.c2) (is_some c.args.self.c3) (is_some c.args.self.c4) (is_some c.args.self.c5) (is_some c.args.self.c6) (is_some c.args.self.c7) c.requires.filled.2 in
    let n0 : vec_len c.args.stations.now ≡ min 0 count = none_yet c.args.stations.now.items (vec_len c.args.stations.now) count c.requires.none (omega arith) in
    let n1 = grows 0 count (vec_len c.args.stations.now) (vec_len c.put_back.new.stations) (is_some c.args.self.c0) n0 is.e0 c.put_back.ensures.len in
    let n2 = grows 1 count (vec_len c.put_back.new.stations) (vec_len c.put_back-2.new.stations) (is_some c.args.self.c1) n1 is.e1 c.put_back-2.ensures.len in
    let n3 = grows 2 count (vec_len c.put_back-2.new.stations) (vec_len c.put_back-3.new.stations) (is_some c.args.self.c2) n2 is.e2 c.put_back-3.ensures.len in
    let n4 = grows 3 count (vec_len c.put_back-3.new.stations) (vec_len c.put_back-4.new.stations) (is_some c.args.self.c3) n3 is.e3 c.put_back-4.ensures.len in
    let n5 = grows 4 count (vec_len c.put_back-4.new.stations) (vec_len c.put_back-5.new.stations) (is_some c.args.self.c4) n4 is.e4 c.put_back-5.ensures.len in
    let n6 = grows 5 count (vec_len c.put_back-5.new.stations) (vec_len c.put_back-6.new.stations) (is_some c.args.self.c5) n5 is.e5 c.put_back-6.ensures.len in
    let room : count ≤ vec_capacity c.put_back-6.new.stations = omega (arith, c.requires.filled.1) in
    (lit< tt, (fits 6 count (vec_len c.put_back-6.new.stations) (vec_capacity c.put_back-6.new.stations) (is_some c.args.self.c6) n6 is.e6 room, (c.put_back-6.ensures.numbers, follows 6 count (vec_len c.put_back-6.new.stations) (is_some c.args.self.c6) n6 is.e6)))

pub put_back-requires-8 : goal.put_back-requires-8
put_back-requires-8 g c =
    let count = c.requires.filled.0 in
    let is = each_filled count (is_some c.args.self.c0) (is_some c.args.self.c1) (is_some c.args.self.c2) (is_some c.args.self.c3) (is_some c.args.self.c4) (is_some c.args.self.c5) (is_some c.args.self.c6) (is_some c.args.self.c7) c.requires.filled.2 in
    let n0 : vec_len c.args.stations.now ≡ min 0 count = none_yet c.args.stations.now.items (vec_len c.args.stations.now) count c.requires.none (omega arith) in
    let n1 = grows 0 count (vec_len c.args.stations.now) (vec_len c.put_back.new.stations) (is_some c.args.self.c0) n0 is.e0 c.put_back.ensures.len in
    let n2 = grows 1 count (vec_len c.put_back.new.stations) (vec_len c.put_back-2.new.stations) (is_some c.args.self.c1) n1 is.e1 c.put_back-2.ensures.len in
    let n3 = grows 2 count (vec_len c.put_back-2.new.stations) (vec_len c.put_back-3.new.stations) (is_some c.args.self.c2) n2 is.e2 c.put_back-3.ensures.len in
    let n4 = grows 3 count (vec_len c.put_back-3.new.stations) (vec_len c.put_back-4.new.stations) (is_some c.args.self.c3) n3 is.e3 c.put_back-4.ensures.len in
    let n5 = grows 4 count (vec_len c.put_back-4.new.stations) (vec_len c.put_back-5.new.stations) (is_some c.args.self.c4) n4 is.e4 c.put_back-5.ensures.len in
    let n6 = grows 5 count (vec_len c.put_back-5.new.stations) (vec_len c.put_back-6.new.stations) (is_some c.args.self.c5) n5 is.e5 c.put_back-6.ensures.len in
    let n7 = grows 6 count (vec_len c.put_back-6.new.stations) (vec_len c.put_back-7.new.stations) (is_some c.args.self.c6) n6 is.e6 c.put_back-7.ensures.len in
    let room : count ≤ vec_capacity c.put_back-7.new.stations = omega (arith, c.requires.filled.1) in
    (lit< tt, (fits 7 count (vec_len c.put_back-7.new.stations) (vec_capacity c.put_back-7.new.stations) (is_some c.args.self.c7) n7 is.e7 room, (c.put_back-7.ensures.numbers, follows 7 count (vec_len c.put_back-7.new.stations) (is_some c.args.self.c7) n7 is.e7)))

pub returns-clause-count : goal.returns-clause-count
returns-clause-count g c =
    let count = c.requires.filled.0 in
    let is = each_filled count (is_some c.args.self.c0) (is_some c.args.self.c1) (is_some c.args.self.c2) (is_some c.args.self.c3) (is_some c.args.self.c4) (is_some c.args.self.c5) (is_some c.args.self.c6) (is_some c.args.self.c7) c.requires.filled.2 in
    let n0 : vec_len c.args.stations.now ≡ min 0 count = none_yet c.args.stations.now.items (vec_len c.args.stations.now) count c.requires.none (omega arith) in
    let n1 = grows 0 count (vec_len c.args.stations.now) (vec_len c.put_back.new.stations) (is_some c.args.self.c0) n0 is.e0 c.put_back.ensures.len in
    let n2 = grows 1 count (vec_len c.put_back.new.stations) (vec_len c.put_back-2.new.stations) (is_some c.args.self.c1) n1 is.e1 c.put_back-2.ensures.len in
    let n3 = grows 2 count (vec_len c.put_back-2.new.stations) (vec_len c.put_back-3.new.stations) (is_some c.args.self.c2) n2 is.e2 c.put_back-3.ensures.len in
    let n4 = grows 3 count (vec_len c.put_back-3.new.stations) (vec_len c.put_back-4.new.stations) (is_some c.args.self.c3) n3 is.e3 c.put_back-4.ensures.len in
    let n5 = grows 4 count (vec_len c.put_back-4.new.stations) (vec_len c.put_back-5.new.stations) (is_some c.args.self.c4) n4 is.e4 c.put_back-5.ensures.len in
    let n6 = grows 5 count (vec_len c.put_back-5.new.stations) (vec_len c.put_back-6.new.stations) (is_some c.args.self.c5) n5 is.e5 c.put_back-6.ensures.len in
    let n7 = grows 6 count (vec_len c.put_back-6.new.stations) (vec_len c.put_back-7.new.stations) (is_some c.args.self.c6) n6 is.e6 c.put_back-7.ensures.len in
    let n8 = grows 7 count (vec_len c.put_back-7.new.stations) (vec_len c.put_back-8.new.stations) (is_some c.args.self.c7) n7 is.e7 c.put_back-8.ensures.len in
    c.requires.filled.2 ∙ filled_again count (vec_len c.put_back-8.new.stations) n8

pub returns-clause-few : goal.returns-clause-few
returns-clause-few g c =
    let count = c.requires.filled.0 in
    let is = each_filled count (is_some c.args.self.c0) (is_some c.args.self.c1) (is_some c.args.self.c2) (is_some c.args.self.c3) (is_some c.args.self.c4) (is_some c.args.self.c5) (is_some c.args.self.c6) (is_some c.args.self.c7) c.requires.filled.2 in
    let n0 : vec_len c.args.stations.now ≡ min 0 count = none_yet c.args.stations.now.items (vec_len c.args.stations.now) count c.requires.none (omega arith) in
    let n1 = grows 0 count (vec_len c.args.stations.now) (vec_len c.put_back.new.stations) (is_some c.args.self.c0) n0 is.e0 c.put_back.ensures.len in
    let n2 = grows 1 count (vec_len c.put_back.new.stations) (vec_len c.put_back-2.new.stations) (is_some c.args.self.c1) n1 is.e1 c.put_back-2.ensures.len in
    let n3 = grows 2 count (vec_len c.put_back-2.new.stations) (vec_len c.put_back-3.new.stations) (is_some c.args.self.c2) n2 is.e2 c.put_back-3.ensures.len in
    let n4 = grows 3 count (vec_len c.put_back-3.new.stations) (vec_len c.put_back-4.new.stations) (is_some c.args.self.c3) n3 is.e3 c.put_back-4.ensures.len in
    let n5 = grows 4 count (vec_len c.put_back-4.new.stations) (vec_len c.put_back-5.new.stations) (is_some c.args.self.c4) n4 is.e4 c.put_back-5.ensures.len in
    let n6 = grows 5 count (vec_len c.put_back-5.new.stations) (vec_len c.put_back-6.new.stations) (is_some c.args.self.c5) n5 is.e5 c.put_back-6.ensures.len in
    let n7 = grows 6 count (vec_len c.put_back-6.new.stations) (vec_len c.put_back-7.new.stations) (is_some c.args.self.c6) n6 is.e6 c.put_back-7.ensures.len in
    let n8 = grows 7 count (vec_len c.put_back-7.new.stations) (vec_len c.put_back-8.new.stations) (is_some c.args.self.c7) n7 is.e7 c.put_back-8.ensures.len in
    omega (arith, n8)

pub returns-clause-numbers : goal.returns-clause-numbers
returns-clause-numbers g c = c.put_back-8.ensures.numbers

pub returns-clause-room : goal.returns-clause-room
returns-clause-room g c = omega arith
