-- How a page looks: large type, the first day across the page, the others below it as columns where there is room. Free is dashed and outlined,
-- taken is filled; the words say so too. In light and dark.
use Rattle.std.specs.Prelude.{ℕ, List, codes, ◌++◌}

abbrev pub page_style : List ℕ
page_style =
    codes ":root { color-scheme: light dark; --page: #f6f5f1; --ink: #1d2127; --soft: #565d68; --taken: #6b2737; --rim: #6b2737; --on-taken: #ffffff; --free: #ffffff; --on-free: #14532d; --edge: #2f7d4f; }\n"
    ++ codes "@media (prefers-color-scheme: dark) { :root { --page: #14171b; --ink: #eceef1; --soft: #a9b1bc; --taken: #5c2b37; --rim: #b5707f; --on-taken: #fff1f3; --free: #14171b; --on-free: #a5e2bb; --edge: #5fae80; } }\n"
    ++ codes "* { box-sizing: border-box; }\n"
    ++ codes "html { font: clamp(100%, 1.25vw, 200%)/1.3 system-ui, -apple-system, 'Segoe UI', Roboto, 'Noto Sans', 'DejaVu Sans', sans-serif; }\n"
    ++ codes "body { margin: 0; padding: 1.25rem; background: var(--page); color: var(--ink); }\n"
    ++ codes "header { display: flex; flex-wrap: wrap; justify-content: space-between; align-items: baseline; gap: 0 1.5rem; }\n"
    ++ codes "h1 { margin: 0; font-size: 2.25rem; line-height: 1.15; overflow-wrap: anywhere; }\n"
    ++ codes "header p { margin: 0; color: var(--soft); }\n"
    ++ codes "main { display: grid; grid-template-columns: repeat(auto-fill, minmax(min(100%, 11.5rem), 1fr)); gap: 1.25rem 0.75rem; margin-top: 1rem; }\n"
    ++ codes "h2 { margin: 0 0 0.5rem; font-size: 1.25rem; line-height: 1.15; }\n"
    ++ codes "h2 time { display: block; font-size: 0.9375rem; font-weight: 400; color: var(--soft); }\n"
    ++ codes "ol { display: grid; gap: 0.5rem; margin: 0; padding: 0; list-style: none; }\n"
    ++ codes "li { padding: 0.375rem 0.625rem; border: 0.1875rem solid var(--rim); border-radius: 0.5rem; overflow-wrap: anywhere; }\n"
    ++ codes ".taken { background: var(--taken); color: var(--on-taken); }\n"
    ++ codes ".free { background: var(--free); color: var(--on-free); border: 0.1875rem dashed var(--edge); }\n"
    ++ codes ".when { display: block; font-size: 1.375rem; font-weight: 700; font-variant-numeric: tabular-nums; }\n"
    ++ codes "b { letter-spacing: 0.04em; text-transform: uppercase; }\n"
    ++ codes ".who { display: block; font-size: 0.9375rem; }\n"
    ++ codes "section:first-child { grid-column: 1 / -1; }\n"
    ++ codes "section:first-child h2 { font-size: 2rem; }\n"
    ++ codes "section:first-child h2 time { display: inline; font-size: 1.25rem; }\n"
    ++ codes "section:first-child ol { grid-template-columns: repeat(auto-fill, minmax(min(100%, 19.5rem), 1fr)); }\n"
    ++ codes "section:first-child .when { font-size: clamp(2.5rem, 4.2vw, 3.375rem); line-height: 1.1; }\n"
    ++ codes "section:first-child b { font-size: 2rem; line-height: 1.2; }\n"
    ++ codes "section:first-child .who { font-size: 1.5rem; }\n"
