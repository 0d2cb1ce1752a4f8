-- Opens the rules for computing: whoever unfolds `computing` may evaluate a command, a day or the printer.
use mathlib.Core.List.{flat_map}
use Rattle.books.specs.Kind.{all}
use Rattle.numbers.specs.Sums.{sum_to, every_to, count_to, lowest_to}
use Rattle.numbers.specs.Lists.{mem, first, place, largest}
use Rattle.tree.specs.Tree.{children, roots, root, ordered, chain, figure}
use Rattle.tree.specs.Need.{need, resident, in_process, trolley}
use Rattle.tree.specs.Need
use Rattle.tree.specs.Peak.{sums, peak, peak_task, peaked}
use Rattle.books.specs.Standing.{count}
use Rattle.format.specs.Command.{forms, find, byte_of, operands_of, widths_of, little, number, littles, numbers, room, bytes, read_by, table, decode}
use Rattle.rules.specs.Phase
use Rattle.rules.specs.Grounds.{in_turn, in_limits, peak_of, peak_in, fits_in, peaks_of, own_ground, ground_for}
use Rattle.books.specs.Booking.{total, children_figure, missing, fed, misses, allows_in, allows, book, activate, ready, start, spent, gift, pass, release, offer, pass_each, climb, dispatch}
use Rattle.books.specs.Booking
use Rattle.rules.specs.Obey.{opened, with_task, with_orders, execution_order, completed, with_books, with_bound, ahead, begun, proceed, fresh, ended_standings, shared, ended, phase_after, unloaded, obey, free}
use Rattle.rules.specs.Answer.{refuse, front, accept, judge, respond, command}
use Rattle.rules.specs.Question.{is_running, booked_in, in_use_in, fullness_of, fullness}
use Rattle.whys.specs.Why.{first_waiting, lack_in, lacks, unended_child, why}
use Rattle.streams.specs.Instance.{tasks_to, commands, written}
use Rattle.streams.specs.Write.{untouched, at_front, is_whole, written_length, write}
use Rattle.postorders.specs.Postorder.{children_of, insert, by_falling, peak_less_out, best_postorder}
use Rattle.postorders.specs.Find.{all_reach, found_below, found, find_ground}
use Rattle.postorders.specs.Find
use Rattle.rules.specs.Day.{after, answers, accepted, is_plan, is_begin, reported, events, is_fetched, log, opens_day, opens_plan, next_plan, runs}
use Rattle.rules.specs.Day
use Rattle.theorem.specs.Theorem.{used_by, accepted_only}
use Rattle.texts.specs.Text.{ascii, digits, decimal, spaced, listed, figures, begin_line, done_line, fetch_line, places_line, line, refused_line, accepted_line}
use Rattle.texts.specs.Printer.{idle, said, answered, is_awaited, turn, print_from, print}

unfoldable pub computing : Unit {0}
unfolding
    sum_to
    every_to
    count_to
    lowest_to
    mem
    first
    place
    largest
    children
    need
    resident
    in_process
    trolley
    Need.in_use
    sums
    peak
    peak_task
    peaked
    roots
    root
    ordered
    count
    forms
    find
    byte_of
    operands_of
    widths_of
    little
    number
    littles
    numbers
    room
    bytes
    read_by
    table
    decode
    Phase.holds_trays
    in_turn
    in_limits
    peak_in
    fits_in
    peak_of
    peaks_of
    own_ground
    ground_for
    chain
    total
    figure
    children_figure
    missing
    fed
    misses
    allows_in
    all
    allows
    book
    activate
    ready
    Booking.starts
    start
    free
    spent
    gift
    pass
    release
    offer
    pass_each
    climb
    dispatch
    opened
    with_task
    with_orders
    execution_order
    completed
    with_books
    with_bound
    ahead
    begun
    proceed
    fresh
    ended_standings
    shared
    ended
    phase_after
    unloaded
    obey
    refuse
    front
    accept
    judge
    respond
    command
    is_running
    booked_in
    in_use_in
    first_waiting
    lack_in
    lacks
    unended_child
    why
    flat_map
    tasks_to
    commands
    written
    untouched
    at_front
    is_whole
    written_length
    write
    children_of
    insert
    by_falling
    peak_less_out
    best_postorder
    all_reach
    found_below
    found
    find_ground
    Find.find_order
    after
    answers
    accepted
    accepted_only
    is_plan
    is_begin
    reported
    events
    log
    Day.starts
    Day.ends
    is_fetched
    opens_day
    opens_plan
    next_plan
    runs
    used_by
    fullness_of
    fullness
    ascii
    digits
    decimal
    spaced
    listed
    figures
    begin_line
    done_line
    fetch_line
    places_line
    line
    refused_line
    accepted_line
    idle
    said
    answered
    is_awaited
    turn
    print_from
    print
computing = tt
