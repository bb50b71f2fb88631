-- Why the loop and the window are what their contracts say.
mod Refilling
mod Whole
